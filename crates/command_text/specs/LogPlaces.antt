-- Which word of a verifier's log a place names, counted from 0: an element has four words. First the size, where the proof binds it; then q0, four claims and mu;
-- then in each round r, from 1: lambda, r times three sums and rho, four claims and mu.
-- Assumes nothing.
use Rattle.std.specs.Prelude.{Bool, if◌then◌else◌, List, [], ◌∷◌, ℕ, ◌*◌, ◌-◌, ◌/◌, ◌%◌, ◌==◌, nat_lt}
use Rattle.command_text.specs.Names.{claim_of, sum_of}
use Rattle.command_text.specs.Places.{layer_from}
use Rattle.command_text.specs.declared.places.SubroundAt.{SubroundAt}
use Rattle.command_text.specs.declared.log_places.LogWord.{LogWord}
use Rattle.command_text.specs.declared.log_places.LogWord.TheVariants.{Size, Root, Lambda, Sum, Rho, Claim, Mu}

-- element k of a round's sub-rounds
abbrev pub subround_word : (r k word : ℕ) → LogWord
subround_word r k word = let at : SubroundAt = record { layer = r; subround = k / 4 } in if k % 4 == 3 then Rho at word else Sum at (sum_of (k % 4)) word

-- element k of those that end a round
abbrev pub last_word : (r k word : ℕ) → LogWord
last_word r k word = if nat_lt k 4 then Claim r (claim_of k) word else Mu r word

-- element k after lambda
abbrev pub inner_word : (r k word : ℕ) → LogWord
inner_word r k word = if nat_lt (k / 4) r then subround_word r k word else last_word r (k - 4 * r) word

abbrev pub round_word : (r k word : ℕ) → LogWord
round_word r k word = if k == 0 then Lambda r word else inner_word r (k - 1) word

abbrev pub first_word : (k word : ℕ) → LogWord
first_word k word = if k == 0 then Root word else last_word 0 (k - 1) word

-- how many elements the rounds 1 to 9 have: 4 r + 6
abbrev pub round_sizes : List ℕ
round_sizes = 10 ∷ 14 ∷ 18 ∷ 22 ∷ 26 ∷ 30 ∷ 34 ∷ 38 ∷ 42 ∷ []

abbrev pub later_word : (place : ℕ) → LogWord
later_word place = let at = layer_from 1 round_sizes (place / 4) in round_word at.layer at.subround (place % 4)

abbrev pub run_word : (place : ℕ) → LogWord
run_word place = if nat_lt place 24 then first_word (place / 4) (place % 4) else later_word (place - 24)

abbrev pub log_word : (sized : Bool) (place : ℕ) → LogWord
log_word sized place = if sized then (if nat_lt place 4 then Size place else run_word (place - 4)) else run_word place
