-- The turns of the loops over digits and spaces, and the ways out of the small tests.
-- Assumes nothing.
use Rattle.std.proofs.Common.{◌≡◌, ℕ, ◌+◌, ◌<◌, ◌≤◌, Bool, true, false, List, ◌∷◌, length, get_or, drop, add-one, arith, drop_of_length-le, drop-cons, le-ltb, lt-ltb}
use Rattle.field.specs.Base.{P}
use Rattle.sheet_text.specs.Scan.{digit_of, grown, number_from, is_space, spaces_from}

module _ (text : List ℕ) (i : ℕ) where
  next : i < length text → drop i text ≡ get_or text i 0 ∷ drop (i + 1) text
  next h = rw (add-one, drop-cons text i 0)

  pub digit_more : (v : ℕ) → i < length text → (d w : ℕ) → d ≡ digit_of (get_or text i 0) → d ≤ 9 → w ≡ grown v d → number_from w (i + 1) (drop (i + 1) text) ≡ number_from v i (drop i text)
  unfolding number_from
  digit_more v h d w e small g = rw (next h, ← e, lt-ltb d 10 (omega arith), g)

  pub digit_ends : (v : ℕ) → i < length text → (d : ℕ) → d ≡ digit_of (get_or text i 0) → 9 < d → record { value = v; at = i } ≡ number_from v i (drop i text)
  unfolding number_from
  digit_ends v h d e large = rw (next h, ← e, le-ltb d 10 (omega arith))

  pub number_ends : (v : ℕ) → length text ≤ i → record { value = v; at = i } ≡ number_from v i (drop i text)
  unfolding number_from
  number_ends v h = rw (drop_of_length-le text h)

  pub space_more : i < length text → (s : Bool) → s ≡ is_space (get_or text i 0) → s ≡ true → spaces_from (i + 1) (drop (i + 1) text) ≡ spaces_from i (drop i text)
  unfolding spaces_from
  space_more h s e t = rw (next h, ← e, t)

  pub space_none : i < length text → (s : Bool) → s ≡ is_space (get_or text i 0) → s ≡ false → i ≡ spaces_from i (drop i text)
  unfolding spaces_from
  space_none h s e t = rw (next h, ← e, t)

  pub spaces_end : length text ≤ i → i ≡ spaces_from i (drop i text)
  unfolding spaces_from
  spaces_end h = rw (drop_of_length-le text h)

pub grown_most : (v d w : ℕ) → w ≡ grown v d → w ≤ P
grown_most v d w e = omega arith
