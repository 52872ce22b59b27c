-- The places where a challenge is drawn, what is on the table there, and which challenges are bad: those that turn a false claim into a true one.
-- Assumes nothing.
use Rattle.std.specs.Prelude.{ℕ, suc, ◌≡◌, List, [], ◌∷◌}
use Rattle.ring.specs.Field.{Field}
use Rattle.multilinear.specs.Forms
use Rattle.multilinear.specs.Interpolate
use Rattle.multilinear.specs.Table
use Rattle.multilinear.specs.RoundSum
use Rattle.multilinear.specs.RoundSum.{Claims}
use Rattle.gkr.specs.Run.{Frac, Cubic}
use Rattle.gkr.specs.Tree

-- what is on the table before a challenge, all of it sent or drawn before
pub data Step (A : Type 0) : Type 0 where
  batching : (h : ℕ) (xi : List A) (v : Frac A) → Step A  -- before lambda: the claims v at the point xi on the nodes at height h + 1
  subround : (h k : ℕ) (xi : List A) (lambda : A) (rhos : List A) (claim : A) (s : Cubic A) → Step A  -- before a rho, k sub-rounds to come: the claim and the message s; the last of rhos first
  joining : (h : ℕ) (xi : List A) (c : Claims A) → Step A  -- before mu: the claims c at the point xi on the children at height h

-- a challenge, and what was on the table when it was drawn
pub record Drawn (Q A : Type 0) : Type 0 where
  pub step : Q
  pub challenge : A

-- how many challenges can be bad at a step
abbrev pub most : {A : Type 0} → Step A → ℕ
most (batching h xi v) = 1
most (subround h k xi lambda rhos claim s) = 3
most (joining h xi c) = 1

module _ (F : Field) where
  open F use {ring as K}
  open F.ring use {carrier as R, add as ◌+◌, mul as ◌*◌}

  infixl 65 ◌+◌ ◌-◌
  infixl 70 ◌*◌
  abbrev ◌-◌ : R → R → R
  ◌-◌ = Forms.◌-◌ K

  -- the claims v as one, by lambda
  abbrev pub batched : (v : Frac R) (lambda : R) → R
  batched v lambda = v.p + lambda * v.q

  -- the verifier's next claim
  abbrev pub next_claim : (claim : R) (s : Cubic R) (rho : R) → R
  next_claim claim s rho = Interpolate.cubic F (claim - s.at1) s.at1 s.at2 s.at3 rho

  -- a column, and four columns, after the sub-rounds of these rhos, the last first
  abbrev pub bound : (t : ℕ → R) (rhos : List R) → ℕ → R
  bound t [] = t
  bound t (rho ∷ rhos) = Table.fold K (bound t rhos) rho

  abbrev pub bound_claims : (pq : ℕ → Claims R) (rhos : List R) → ℕ → Claims R
  bound_claims pq [] = pq
  bound_claims pq (rho ∷ rhos) = RoundSum.folded K (bound_claims pq rhos) rho

  -- what the claims ought to be, of the rows f: on the nodes at height h, on their children, and on a sub-round's sum
  abbrev pub true_claims : (f : ℕ → Frac R) (h : ℕ) (xi : List R) → Frac R
  true_claims f h xi = Tree.value K (Tree.tree K f h) xi

  abbrev pub true_children : (f : ℕ → Frac R) (h : ℕ) (xi : List R) → Claims R
  true_children f h xi = RoundSum.values K (Tree.children K (Tree.tree K f h)) xi

  abbrev pub true_sum : (f : ℕ → Frac R) (h k : ℕ) (xi : List R) (lambda : R) (rhos : List R) → R
  true_sum f h k xi lambda rhos = RoundSum.total K k lambda (bound (Table.weight K xi) rhos) (bound_claims (Tree.children K (Tree.tree K f h)) rhos)

  -- A BAD CHALLENGE: the claim before it is false of the rows f, and the claim after it is true of them
  abbrev pub bad : (f : ℕ → Frac R) → Step R → R → Type 0
  bad f (batching h xi v) lambda =
      ¬ (v ≡ true_claims f (suc h) xi) × (batched v lambda ≡ batched (true_claims f (suc h) xi) lambda)
  bad f (subround h k xi lambda rhos claim s) rho =
      ¬ (claim ≡ true_sum f h (suc k) xi lambda rhos) × (next_claim claim s rho ≡ true_sum f h k xi lambda (rho ∷ rhos))
  bad f (joining h xi c) mu =
      ¬ (c ≡ true_children f h xi) × (Tree.reduce_to_single_evaluation K c mu ≡ Tree.reduce_to_single_evaluation K (true_children f h xi) mu)
