-- The laws of counting: no more than all sequences pass, and a sum in which few terms are large.
-- Assumes nothing.
use Prim.Native.Nat.{ℕ, zero, suc, ◌+◌, ◌*◌, ◌^◌, ◌≤◌}
use Rattle.std.specs.Prelude.{◌≡◌, refl, Bool}
use Rattle.std.proofs.Common.{sym, ap, le_trans, mul-le-mul_right}
use Rattle.std.proofs.Math.Path.{subst}
use Rattle.std.proofs.Math.Bool.{true, false, cond}
use Rattle.std.proofs.lemmas.Bool.{false≢true}
use mathlib.Core.List.{List, [], ◌∷◌}
use Rattle.std.proofs.Math.Nat.{pow-zero, pow-succ'}
use native.Mathlib.Omega.{arith}
use Rattle.std.proofs.Math.ListN.{length}
use Rattle.soundness.specs.Few.{All, Distinct, AtMost}
use Rattle.soundness.specs.Tally.{sum_over, tally, test}

pub tested : {A : Type 0} (d : Dec A) → test d ≡ true → A
unfolding test
tested (yes a) e = a
tested (no a) e = absurd (false≢true e)

pub test_true : {A : Type 0} (d : Dec A) → A → test d ≡ true
unfolding test
test_true (yes a) h = refl
test_true (no n) h = absurd (n h)

pub test_false : {A : Type 0} (d : Dec A) → ¬ A → test d ≡ false
unfolding test
test_false (yes a) h = absurd (h a)
test_false (no n) h = refl

module _ {A : Type 0} where
  sum_most : (f : A → ℕ) (m : ℕ) → ((x : A) → f x ≤ m) → (xs : List A) → sum_over f xs ≤ length xs * m
  unfolding sum_over
  sum_most f m h [] = omega arith
  sum_most f m h (x ∷ xs) = omega (arith, h x, sum_most f m h xs)

  pub sum_scaled : (f : A → ℕ) (n : ℕ) (xs : List A) → sum_over f xs * n ≡ sum_over (λ x. f x * n) xs
  unfolding sum_over
  sum_scaled f n [] = omega arith
  sum_scaled f n (x ∷ xs) = omega (arith, sum_scaled f n xs)

  pub tally_most : (X : List A) (n : ℕ) (p : List A → Bool) → tally X n p ≤ length X ^ n
  unfolding tally
  tally_most X zero p = go (p [])
    where
      go : (b : Bool) → cond b 1 0 ≤ length X ^ 0
      go true = omega (arith, pow-zero (length X))
      go false = omega arith
  tally_most X (suc n) p =
      subst (λ k. sum_over (λ x. tally X n (λ xs. p (x ∷ xs))) X ≤ k) (sym (pow-succ' (length X) n)) (sum_most _ (length X ^ n) (λ x. tally_most X n (λ xs. p (x ∷ xs))) X)

  pub tally_none : (X : List A) (n : ℕ) (p : List A → Bool) → ((xs : List A) → length xs ≡ n → p xs ≡ true → ⊥) → tally X n p ≤ 0
  unfolding tally
  tally_none X zero p h = go (p []) (h [] refl)
    where
      go : (b : Bool) → (b ≡ true → ⊥) → cond b 1 0 ≤ 0
      go true k = absurd (k refl)
      go false k = omega arith
  tally_none X (suc n) p h = omega (arith, sum_most (λ x. tally X n (λ xs. p (x ∷ xs))) 0 (λ x. tally_none X n (λ xs. p (x ∷ xs)) (λ xs e. h (x ∷ xs) (ap suc e))) X)

  -- those of xs that have P
  module _ (P : A → Type 0) (decide : (x : A) → Dec (P x)) where
    keep : {x : A} → Dec (P x) → List A → List A
    keep {x} (yes h) l = x ∷ l
    keep (no h) l = l

    kept : List A → List A
    kept [] = []
    kept (x ∷ xs) = keep (decide x) (kept xs)

    kept_all : (xs : List A) → All P (kept xs)
    unfolding kept keep
    kept_all [] = tt
    kept_all (x ∷ xs) = go (decide x) (kept_all xs)
      where
        go : (d : Dec (P x)) → All P (kept xs) → All P (keep d (kept xs))
        go (yes h) a = (h, a)
        go (no h) a = a

    kept_sub : (Q : A → Type 0) (xs : List A) → All Q xs → All Q (kept xs)
    unfolding kept keep
    kept_sub Q [] a = tt
    kept_sub Q (x ∷ xs) a = go (decide x) (kept_sub Q xs a.1)
      where
        go : (d : Dec (P x)) → All Q (kept xs) → All Q (keep d (kept xs))
        go (yes h) b = (a.0, b)
        go (no h) b = b

    kept_distinct : (xs : List A) → Distinct xs → Distinct (kept xs)
    unfolding kept keep
    kept_distinct [] d = tt
    kept_distinct (x ∷ xs) d = go (decide x) (kept_sub (λ y. ¬ (x ≡ y)) xs d.0) (kept_distinct xs d.1)
      where
        go : (e : Dec (P x)) → All (λ y. ¬ (x ≡ y)) (kept xs) → Distinct (kept xs) → Distinct (keep e (kept xs))
        go (yes h) a b = (a, b)
        go (no h) a b = b

    sum_kept : (f : A → ℕ) (big small : ℕ) → ((x : A) → f x ≤ big) → ((x : A) → ¬ P x → f x ≤ small) → (xs : List A) → sum_over f xs ≤ length (kept xs) * big + length xs * small
    unfolding sum_over kept keep
    sum_kept f big small hb hs [] = omega arith
    sum_kept f big small hb hs (x ∷ xs) = go (decide x) (sum_kept f big small hb hs xs)
      where
        go : (d : Dec (P x)) → sum_over f xs ≤ length (kept xs) * big + length xs * small → f x + sum_over f xs ≤ length (keep d (kept xs)) * big + suc (length xs) * small
        go (yes h) s = omega (arith, hb x, s)
        go (no h) s = omega (arith, hs x h, s)

    -- a sum over distinct elements in which at most k terms are more than small
    pub sum_few : (k : ℕ) → AtMost k P → (f : A → ℕ) (big small : ℕ) → ((x : A) → f x ≤ big) → ((x : A) → ¬ P x → f x ≤ small) → (xs : List A) → Distinct xs
        → sum_over f xs ≤ k * big + length xs * small
    sum_few k few f big small hb hs xs d =
        let n = few (kept xs) (kept_distinct xs d) (kept_all xs) in
        le_trans (sum_kept f big small hb hs xs) (omega (arith, mul-le-mul_right big n))
