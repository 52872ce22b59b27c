-- In place, entry 0 ends up as the value; Horner's rule gives the plain sum; eq goes on by one coordinate of each point.
-- Assumes nothing.
use Rattle.std.specs.Prelude.{◌≡◌}
use Rattle.std.proofs.Math.Path.{refl, sym, ap}
use Rattle.std.proofs.Common.{◌∙◌, suc-ne-zero, lt-ltb}
use Rattle.std.proofs.Math.Bool.{cond}
use mathlib.Core.List.{List, [], ◌∷◌, ◌++◌}
use Prim.Native.Nat.{ℕ, zero, suc, ◌<◌, ◌^◌}
use Rattle.std.proofs.Math.Nat.{suc_inj}
use Rattle.std.proofs.Math.ListN.{length}
use Rattle.ring.specs.Ring.{CommRing, pow}
use Rattle.ring.proofs.Quote.{ring, quote}
use Rattle.multilinear.specs.Forms
use Rattle.multilinear.specs.Table
use Rattle.multilinear.proofs.TableLaws
use Rattle.columns.specs.Tables

module _ (K : CommRing) where
  open K use {carrier as R, add as ◌+◌, mul as ◌*◌, nil, one, add_assoc, add_nil, mul_assoc, mul_comm, mul_one, mul_add}

  infixl 65 ◌+◌
  infixl 70 ◌*◌
  -- EVALUATION IN PLACE

  pub merge_in_low : (k : ℕ) (t : ℕ → R) (z : R) (i : ℕ) → i < 2 ^ k → Tables.merge_in K k t z i ≡ Table.merge K k t z i
  unfolding Tables.merge_in
  merge_in_low k t z i h = ap (λ b. cond b (Table.merge K k t z i) (t i)) (lt-ltb i (2 ^ k) h)

  -- zs k: the point z 0, .. z (k - 1), each with one coordinate more at the end
  module _ (z : ℕ → R) (zs : ℕ → List R) (sized : (k : ℕ) → length (zs k) ≡ k) (none : zs 0 ≡ []) (snoc : (k : ℕ) → zs (suc k) ≡ zs k ++ (z k ∷ [])) where
    pub overwrite_value : (n : ℕ) (t : ℕ → R) → Tables.overwrite K n z t 0 ≡ Table.value K t (zs n)
    unfolding Tables.overwrite
    overwrite_value zero t = sym (ap (Table.value K t) none ∙ TableLaws.value_nil K t)
    overwrite_value (suc k) t =
        overwrite_value k (Tables.merge_in K k t (z k))
        ∙ TableLaws.value_agrees K (Tables.merge_in K k t (z k)) (Table.merge K k t (z k)) (zs k) (λ i h. merge_in_low k t (z k) i (low i h))
        ∙ ap (λ j. Table.value K (Table.merge K j t (z k)) (zs k)) (sym (sized k))
        ∙ sym (TableLaws.value_merge K t (zs k) (z k))
        ∙ ap (Table.value K t) (sym (snoc k))
      where
        low : (i : ℕ) → i < 2 ^ length (zs k) → i < 2 ^ k
        low i h = rw (sized k) at h

  -- POLYNOMIALS

  pub sum_first : (n : ℕ) (f : ℕ → R) → Table.sum K (suc n) f ≡ f 0 + Table.sum K n (λ i. f (suc i))
  unfolding Table.sum
  sum_first zero f = K.add_comm nil (f 0)
  sum_first (suc n) f = ap (λ s. s + f (suc n)) (sum_first n f) ∙ add_assoc (f 0) _ (f (suc n))

  -- one step of Horner's rule, from the coefficients after i to those from i on
  pub polynomial_step : (n : ℕ) (c : ℕ → R) (x : R) → Tables.polynomial K n (λ j. c (suc j)) x * x + c 0 ≡ Tables.polynomial K (suc n) c x
  unfolding Tables.polynomial pow
  polynomial_step n c x =
      ap (λ s. s + c 0)
      (mul_comm _ x ∙ sym (TableLaws.sum_mul K n x (λ i. c (suc i) * pow K x i)) ∙ TableLaws.sum_cong K n (λ i. turn x (c (suc i)) (pow K x i)))
      ∙ K.add_comm _ (c 0)
      ∙ ap (λ a. a + Table.sum K n (λ i. c (suc i) * (x * pow K x i))) (sym (mul_one (c 0)))
      ∙ sym (sum_first n (λ i. c i * pow K x i))
    where
      turn : (x a p : R) → x * (a * p) ≡ a * (x * p)
      turn x a p = ring K (x ∷ a ∷ p ∷ []) (search quote) tt

  pub polynomial_none : (c : ℕ → R) (x : R) → Tables.polynomial K 0 c x ≡ nil
  unfolding Tables.polynomial Table.sum
  polynomial_none c x = refl

  -- EQ

  pub eq_snoc : (xs ys : List R) (x y : R) → length xs ≡ length ys → Table.eq K (xs ++ (x ∷ [])) (ys ++ (y ∷ [])) ≡ Table.eq K xs ys * Forms.agree K x y
  unfolding Table.eq
  eq_snoc [] [] x y e = mul_comm _ one
  eq_snoc [] (b ∷ ys) x y e = absurd (suc-ne-zero _ (sym e))
  eq_snoc (a ∷ xs) [] x y e = absurd (suc-ne-zero _ e)
  eq_snoc (a ∷ xs) (b ∷ ys) x y e = ap (λ s. Forms.agree K a b * s) (eq_snoc xs ys x y (suc_inj e)) ∙ sym (mul_assoc _ _ _)
