use Prim.Native.Nat.{◌≤◌, ◌-◌}
use mathlib.Core.Path.{◌≡◌}
use lib.ListN.{length}
use Rattle.field.specs.Element.{dec}
use Rattle.prover_layer.specs.Passes.{Folded}
use Rattle.prover_layer.proofs.passes.fold_mle_evals.Given as goal

abbrev pub invariant-loop-y : goal.invariant-loop-y
invariant-loop-y l = (l.y ≤ l.half) × (length l.work ≡ length l.initial.work) × Folded l.initial.work l.work l.pq l.y (dec l.rho)

abbrev pub decreases-loop-y : goal.decreases-loop-y
decreases-loop-y l = l.half - l.y
