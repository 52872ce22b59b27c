-- A table is a function ℕ → R: the sum of its entries, the weight of an index at a point, the value of a table at a point, and its fold.
-- Assumes nothing.
use Rattle.std.specs.Prelude.{List, [], ◌∷◌, cond, ℕ, zero, suc, ◌<◌, ◌/◌, ◌%◌, ◌^◌, ◌+◌ as ◌+ℕ◌, ◌*◌ as ◌*ℕ◌, ◌-◌ as ◌-ℕ◌, ◌≡◌, length, ltb}
use Rattle.ring.specs.Ring.{CommRing}
use Rattle.multilinear.specs.Forms

-- the two entries that folding brings together at y: 2y and 2y + 1
abbrev pub even : ℕ → ℕ
even y = 2 *ℕ y

abbrev pub odd : ℕ → ℕ
odd y = 2 *ℕ y +ℕ 1

module _ (K : CommRing) where
  open K use {carrier as R, add as ◌+◌, mul as ◌*◌, nil, one}

  infixl 65 ◌+◌ ◌-◌
  infixl 70 ◌*◌
  abbrev ◌-◌ : R → R → R
  ◌-◌ = Forms.◌-◌ K

  -- f 0 + f 1 + .. + f (n - 1)
  unfoldable pub sum : (n : ℕ) (f : ℕ → R) → R
  sum zero f = nil
  sum (suc n) f = sum n f + f n

  -- what a bit weighs at z: z where it is 1, and 1 - z where it is 0
  unfoldable pub bit : (z : R) (b : ℕ) → R
  bit z zero = one - z
  bit z (suc _) = z

  -- the product of what the bits of i weigh, bit k at the k-th of the point; the lowest bit at the first
  unfoldable pub weight : (zs : List R) (i : ℕ) → R
  weight [] i = one
  weight (z ∷ zs) i = bit z (i % 2) * weight zs (i / 2)

  -- the value of a column t at a point: the plain sum over all i of t_i times the weight of i
  unfoldable pub value : (t : ℕ → R) (zs : List R) → R
  value t zs = sum (2 ^ length zs) (λ i. t i * weight zs i)

  -- fold_mle_evals: entries 2y and 2y + 1 brought together at rho, so that the lowest bit is bound
  unfoldable pub fold : (t : ℕ → R) (rho : R) (y : ℕ) → R
  fold t rho y = Forms.line K (t (even y)) (t (odd y)) rho

  -- eval_eq_mle: the product of the agreements of two points
  unfoldable pub eq : (xs ys : List R) → R
  eq [] ys = one
  eq (x ∷ xs) [] = one
  eq (x ∷ xs) (y ∷ ys) = Forms.agree K x y * eq xs ys

  -- one step of eval_mle_evals_at_point: both halves of 2 ^ k entries brought together at z
  unfoldable pub merge : (k : ℕ) (t : ℕ → R) (z : R) (i : ℕ) → R
  merge k t z i = Forms.line K (t i) (t (2 ^ k +ℕ i)) z

  -- one step of evals_eq_hypercube, from 2 ^ k entries: the low half times 1 - x, the high half times x
  unfoldable pub grow : (k : ℕ) (t : ℕ → R) (x : R) (i : ℕ) → R
  grow k t x i = cond (ltb i (2 ^ k)) (t i * (one - x)) (t (i -ℕ 2 ^ k) * x)

  -- all steps of evals_eq_hypercube, from the table t of 2 ^ k entries
  unfoldable pub double : (k : ℕ) (t : ℕ → R) (xs : List R) → ℕ → R
  double k t [] = t
  double k t (x ∷ xs) = double (suc k) (grow k t x) xs

  -- two tables with the same 2 ^ k entries
  abbrev pub Agrees : (k : ℕ) (t u : ℕ → R) → Type 0
  Agrees k t u = (i : ℕ) → i < 2 ^ k → t i ≡ u i
