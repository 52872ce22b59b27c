-- A slip: a challenge that lets a claim or a message pass which is not the honest prover's.
-- Assumes nothing.
use Rattle.std.specs.Prelude.{ℕ, suc, ◌≡◌, List, ◌∷◌}
use Rattle.ring.specs.Ring.{num}
use Rattle.ring.specs.Field.{Field}
use Rattle.multilinear.specs.Table
use Rattle.multilinear.specs.RoundSum
use Rattle.gkr.specs.Run.{Frac, Cubic}
use Rattle.gkr.specs.Tree
use Rattle.soundness.specs.Steps.{Step, batching, subround, joining, Drawn, next_claim, bound, bound_claims, true_sum, bad}

module _ (F : Field) where
  open F use {ring as K}
  open F.ring use {carrier as R, one}

  -- the honest prover's message
  abbrev pub true_message : (f : ℕ → Frac R) (h k : ℕ) (xi : List R) (lambda : R) (rhos : List R) → Cubic R
  true_message f h k xi lambda rhos =
      let s = RoundSum.s K k lambda (bound F (Table.weight K xi) rhos) (bound_claims F (Tree.children K (Tree.tree K f h)) rhos) in
      record { at1 = s one; at2 = s (num K 2); at3 = s (num K 3) }

  -- as a bad challenge, but in a sub-round a message that is not the honest one is enough
  abbrev pub slip : (f : ℕ → Frac R) → Step R → R → Type 0
  slip f (batching h xi v) lambda = bad F f (batching h xi v) lambda
  slip f (subround h k xi lambda rhos claim s) rho =
      ¬ ((claim ≡ true_sum F f h (suc k) xi lambda rhos) × (s ≡ true_message f h k xi lambda rhos)) × (next_claim F claim s rho ≡ true_sum F f h k xi lambda (rho ∷ rhos))
  slip f (joining h xi c) mu = bad F f (joining h xi c) mu

  abbrev pub slipped : (f : ℕ → Frac R) → Drawn (Step R) R → Type 0
  slipped f d = slip f d.step d.challenge
