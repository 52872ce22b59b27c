-- The definitions of canonical words by std's words for the searches.
-- Assumes nothing.
use Rattle.std.specs.Prelude.{◌≡◌, refl, Bool, true, false, cond, List, [], ◌∷◌, ℕ, suc, ◌+◌, ◌&&◌, ltb, leb, not, length, position, Option, Some, None}
use Rattle.std.specs.List.{list_all, position_or_len}
use Rattle.std.proofs.Common.{sym, ◌∙◌, ap, arith}
use Rattle.std.proofs.lemmas.Bool.Decides.{leb_tells}
use Rattle.std.proofs.lemmas.List.Recursion.{is_position_or_len}
use Rattle.field.specs.Base.{P}
use Rattle.wire.specs.Words.{all_canonical, first_bad, bad_place}

both : (a b c : Bool) → b ≡ c → (a && b) ≡ cond a c false
both true b c e = e
both false b c e = refl

listed : (ws : List ℕ) → list_all (λ w. ltb w P) ws ≡ all_canonical ws
unfolding all_canonical
listed [] = refl
listed (w ∷ ws) = both _ _ _ (listed ws)

-- for a chain that ends in `all`
pub all_below : (b : Bool) (ws : List ℕ) → b ≡ list_all (λ w. ltb w P) ws → b ≡ all_canonical ws
all_below b ws e = e ∙ listed ws

turned : (t u : Bool) (x : ℕ) → t ≡ not u → cond t (suc x) 0 ≡ cond u 0 (1 + x)
turned t true x e = rw e
turned t false x e = rw e (omega arith)

tests : (w : ℕ) → ltb w P ≡ not (leb P w)
tests w = grind (arith, leb_tells)

first : (ws : List ℕ) → first_bad ws ≡ position_or_len (λ w. leb P w) ws
unfolding first_bad
first ws = is_position_or_len first_bad (λ w. leb P w) refl (λ w ws. turned (ltb w P) (leb P w) (first_bad ws) (tests w)) ws

-- for a chain that ends in `position`
pub first_not_below : (r : Option ℕ) (ws : List ℕ) → r ≡ position (λ w. leb P w) ws → r ≡ bad_place ws
first_not_below r ws e = e ∙ sym (ap (λ n. cond (ltb n (length ws)) (Some n) None) (first ws))
