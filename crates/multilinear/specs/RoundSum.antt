-- What a layer's sumcheck sums over the cube: eq times (p0·q1 + p1·q0 + lambda·q0·q1).
-- Assumes nothing.
use Rattle.std.specs.Prelude.{List, ℕ, ◌^◌}
use Rattle.ring.specs.Ring.{CommRing}
use Rattle.multilinear.specs.Table

-- the claims on a layer, GkrLayerClaims: numerator and denominator of a left (0) and of a right (1) child
pub record Claims (A : Type 0) : Type 0 where
  pub p0 : A
  pub q0 : A
  pub p1 : A
  pub q1 : A

module _ (K : CommRing) where
  open K use {carrier as R, add as ◌+◌, mul as ◌*◌}

  infixl 65 ◌+◌
  infixl 70 ◌*◌
  -- g of each of the four columns pq
  abbrev pub each : {A : Type 0} (g : (ℕ → R) → A) (pq : ℕ → Claims R) → Claims A
  each g pq = record { p0 = g (λ y. (pq y).p0); q0 = g (λ y. (pq y).q0); p1 = g (λ y. (pq y).p1); q1 = g (λ y. (pq y).q1) }

  -- the four columns folded at rho
  abbrev pub folded : (pq : ℕ → Claims R) (rho : R) (y : ℕ) → Claims R
  folded pq rho y = each (λ t. Table.fold K t rho y) pq

  -- the values of the four columns at a point
  abbrev pub values : (pq : ℕ → Claims R) (zs : List R) → Claims R
  values pq zs = each (λ t. Table.value K t zs) pq

  -- numerator of the sum of both fractions, plus lambda times its denominator
  abbrev pub cross : (lambda : R) (c : Claims R) → R
  cross lambda c = c.p0 * c.q1 + c.p1 * c.q0 + lambda * (c.q0 * c.q1)

  -- the sum over the cube of k variables, with the column eq and the four columns pq
  unfoldable pub total : (k : ℕ) (lambda : R) (eq : ℕ → R) (pq : ℕ → Claims R) → R
  total k lambda eq pq = Table.sum K (2 ^ k) (λ y. eq y * cross lambda (pq y))

  -- a sub-round's polynomial s at x: the sum over the remaining cube of k variables, with all columns folded at x
  unfoldable pub s : (k : ℕ) (lambda : R) (eq : ℕ → R) (pq : ℕ → Claims R) (x : R) → R
  s k lambda eq pq x = total k lambda (Table.fold K eq x) (folded pq x)
