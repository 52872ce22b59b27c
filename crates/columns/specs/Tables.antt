-- What is left of a table that is evaluated in place, and a polynomial by its coefficients.
-- Assumes nothing.
use Rattle.std.specs.Prelude.{cond, ℕ, zero, suc, ◌^◌, ltb}
use Rattle.ring.specs.Ring.{CommRing, pow}
use Rattle.multilinear.specs.Table

module _ (K : CommRing) where
  open K use {carrier as R, mul as ◌*◌}

  infixl 70 ◌*◌
  -- the low half of 2 ^ k entries holds both halves brought together at z; the rest stays
  unfoldable pub merge_in : (k : ℕ) (t : ℕ → R) (z : R) (i : ℕ) → R
  merge_in k t z i = cond (ltb i (2 ^ k)) (Table.merge K k t z i) (t i)

  -- the table of n variables after eval_mle_evals_at_point: z (n - 1) binds the top bit first, z 0 the last
  unfoldable pub overwrite : (n : ℕ) (z t : ℕ → R) → ℕ → R
  overwrite zero z t = t
  overwrite (suc k) z t = overwrite k z (merge_in k t (z k))

  -- the sum of coefficient times power: c 0 + c 1 · x + .. + c (n - 1) · x ^ (n - 1)
  unfoldable pub polynomial : (n : ℕ) (c : ℕ → R) (x : R) → R
  polynomial n c x = Table.sum K n (λ i. c i * pow K x i)
