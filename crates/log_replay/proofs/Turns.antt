-- One word of a list and the rest; and the comparison of two logs, by the first place where both have a word and these differ.
-- Assumes nothing.
use Rattle.std.specs.Prelude.{Some, None}
use Rattle.std.specs.List.{zip, position, position_or_len}
use mathlib.Core.Path.{◌≡◌, refl, sym, ◌∙◌, ap}
use mathlib.Core.Bool.{Bool, true, false, cond, not}
use mathlib.Core.List.{List, [], ◌∷◌}
use Prim.Native.Nat.{ℕ, suc, ◌+◌, ◌<◌, ◌≤◌}
use native.Mathlib.Numerals.{add-one}
use native.Mathlib.Omega.{arith}
use borrow.Author.Tests.{lt-ltb, le-ltb, ltb-true, ltb-false}
use lib.Dec.{eqb, ltb}
use lib.ListN.{length, get_or, drop}
use lib.Seq.{drop-cons}
use Rattle.refusal.specs.declared.Refusal.TheVariants.{LogMismatch, LogShort, LogLong}
use Rattle.log_replay.specs.Replayed.{Compared, same, differs, compared}
use Rattle.log_replay.specs.Inner.{differ}

-- what stands at i, and what is left
pub next : (s : List ℕ) (i : ℕ) → i < length s → drop i s ≡ get_or s i 0 ∷ drop (i + 1) s
next s i h = rw (add-one, drop-cons s i 0)

-- the first place where they do, or so many places as both logs have
abbrev pub first : (given left : List ℕ) → ℕ
first given left = position_or_len differ (zip given left)

mismatch : (given left : List ℕ) (place : ℕ) → first given left < length (zip given left) → compared given left place ≡ differs (LogMismatch (place + first given left))
unfolding compared
mismatch [] left place h = absurd (omega arith)
mismatch (g ∷ given) [] place h = absurd (omega arith)
mismatch (g ∷ given) (w ∷ left) place h = go (eqb g w) h (mismatch given left (suc place))
  where
    go : (t : Bool) → cond (not (not t)) (1 + first given left) 0 < suc (length (zip given left))
        → (first given left < length (zip given left) → compared given left (suc place) ≡ differs (LogMismatch (suc place + first given left)))
        → cond t (compared given left (suc place)) (differs (LogMismatch place)) ≡ differs (LogMismatch (place + cond (not (not t)) (1 + first given left) 0))
    go true h f = let e : suc place + first given left ≡ place + (1 + first given left) = omega arith in f (omega arith) ∙ ap (λ k. differs (LogMismatch k)) e
    go false h f = let e : place ≡ place + 0 = omega arith in ap (λ k. differs (LogMismatch k)) e

-- where there is none, by the lengths
abbrev pub by_length : (x y place : ℕ) → Compared
by_length x y place = cond (ltb y x) (differs (LogLong (place + y))) (cond (ltb x y) (differs (LogShort (place + x))) same)

ltb_suc : (x y : ℕ) → ltb x y ≡ ltb (suc x) (suc y)
ltb_suc x y = go (ltb x y) refl
  where
    go : (b : Bool) → ltb x y ≡ b → ltb x y ≡ ltb (suc x) (suc y)
    go true e = e ∙ sym (lt-ltb (suc x) (suc y) (omega (arith, ltb-true x y e)))
    go false e = e ∙ sym (le-ltb (suc x) (suc y) (omega (arith, ltb-false x y e)))

further : (x y place : ℕ) → by_length x y (suc place) ≡ by_length (suc x) (suc y) place
further x y place =
    let e : suc place + x ≡ place + suc x = omega arith in
    let f : suc place + y ≡ place + suc y = omega arith in
    λ i. cond (ltb_suc y x i) (differs (LogLong (f i))) (cond (ltb_suc x y i) (differs (LogShort (e i))) same)

no_mismatch : (given left : List ℕ) (place : ℕ) → length (zip given left) ≤ first given left → compared given left place ≡ by_length (length given) (length left) place
unfolding compared
no_mismatch [] [] place h = refl
no_mismatch [] (w ∷ left) place h = let e : place ≡ place + 0 = omega arith in rw (le-ltb (suc (length left)) 0 (omega arith), lt-ltb 0 (suc (length left)) (omega arith)) (ap (λ k. differs (LogShort k)) e)
no_mismatch (g ∷ given) [] place h = let e : place ≡ place + 0 = omega arith in rw (lt-ltb 0 (suc (length given)) (omega arith)) (ap (λ k. differs (LogLong k)) e)
no_mismatch (g ∷ given) (w ∷ left) place h = go (eqb g w) h (no_mismatch given left (suc place))
  where
    go : (t : Bool) → suc (length (zip given left)) ≤ cond (not (not t)) (1 + first given left) 0
        → (length (zip given left) ≤ first given left → compared given left (suc place) ≡ by_length (length given) (length left) (suc place))
        → cond t (compared given left (suc place)) (differs (LogMismatch place)) ≡ by_length (suc (length given)) (suc (length left)) place
    go true h f = f (omega arith) ∙ further (length given) (length left) place
    go false h f = absurd (omega arith)

-- AS A SEARCH ANSWERS

module _ (given left : List ℕ) where
  abbrev found : Bool
  found = ltb (first given left) (length (zip given left))

  pub unlike : (k : ℕ) → Some k ≡ position differ (zip given left) → compared given left 0 ≡ differs (LogMismatch k)
  unlike k e = go found refl e
    where
      go : (b : Bool) → found ≡ b → Some k ≡ cond b (Some (first given left)) None → compared given left 0 ≡ differs (LogMismatch k)
      go true q e = let n : 0 + first given left ≡ k = (let d : k ≡ first given left = cc in omega arith) in mismatch given left 0 (ltb-true _ _ q) ∙ ap (λ m. differs (LogMismatch m)) n
      go false q e = cc

  pub alike : None ≡ position differ (zip given left) → compared given left 0 ≡ by_length (length given) (length left) 0
  alike e = go found refl e
    where
      go : (b : Bool) → found ≡ b → None ≡ cond b (Some (first given left)) None → compared given left 0 ≡ by_length (length given) (length left) 0
      go true q e = cc
      go false q e = no_mismatch given left 0 (ltb-false _ _ q)

  module _ (e : None ≡ position differ (zip given left)) where
    pub too_long : length left < length given → compared given left 0 ≡ differs (LogLong (length left))
    too_long h = let z : 0 + length left ≡ length left = omega arith in alike e ∙ rw (lt-ltb _ _ h) (ap (λ m. differs (LogLong m)) z)

    pub too_short : length given < length left → compared given left 0 ≡ differs (LogShort (length given))
    too_short h = let z : 0 + length given ≡ length given = omega arith in alike e ∙ rw (le-ltb (length left) (length given) (omega arith), lt-ltb _ _ h) (ap (λ m. differs (LogShort m)) z)

    pub both_out : length given ≤ length left → length left ≤ length given → compared given left 0 ≡ same
    both_out h l = alike e ∙ rw (le-ltb (length left) (length given) h, le-ltb (length given) (length left) l)
