-- The place of a byte in a text.
-- Assumes nothing.
use Rattle.std.proofs.Common.{◌≡◌, ℕ, ◌+◌, ◌-◌, ◌≤◌, eqb, List, [], ◌∷◌, length, take, drop, position, MatchOption, Option, refl, arith, length-drop}
use Rattle.std.specs.List.{position_or_len}
use Rattle.std.proofs.lemmas.Bool.Decides.{nat_tests}
use Rattle.std.proofs.lemmas.Grind.{common_steps}
use Rattle.std.proofs.Math.Seq.{take-length}
use Rattle.sheet_text.specs.Reading.{length_to}

-- The bytes before the first b are as many as those before the first place where the test for b passes.
length_to_position : (b : ℕ) (l : List ℕ) → length_to b l ≡ position_or_len (λ x. eqb x b) l
unfolding length_to
length_to_position b [] = refl
length_to_position b (x ∷ l) = grind (arith, nat_tests, length_to_position b l)

length_to_within : (b : ℕ) (l : List ℕ) → length_to b l ≤ length l
unfolding length_to
length_to_within b [] = omega arith
length_to_within b (x ∷ l) = grind (arith, nat_tests, length_to_within b l)

place_of : (b : ℕ) (l : List ℕ) (r : Option ℕ) → r ≡ position (λ x. eqb x b) l → MatchOption r (length l ≡ length_to b l) (λ n. n ≡ length_to b l)
place_of b l r e = grind (arith, common_steps, nat_tests, length_to_position b l, length_to_within b l)

-- The place of the first b of what a text holds from a place on, or its end where there is none.
pub first_from : (b at : ℕ) (text : List ℕ) (r : Option ℕ) → at ≤ length text → r ≡ position (λ x. eqb x b) (take (length text - at) (drop at text)) → MatchOption r (length text ≡ at + length_to b (drop at text)) (λ n. (n ≡ length_to b (drop at text)) × (at + n ≤ length text))
first_from b at text r h e =
    let rest = drop at text in
    let long : length text - at ≡ length rest = omega (arith, length-drop at text) in
    let k : take (length text - at) rest ≡ rest = rw (long, take-length) in
    let w : length_to b rest ≤ length rest = length_to_within b rest in
    let m : MatchOption r (length rest ≡ length_to b rest) (λ n. n ≡ length_to b rest) = place_of b rest r (rw k at e) in
    grind (arith, common_steps)
