use Prim.Native.Nat.{◌≤◌, ◌-◌}
use mathlib.Core.Path.{◌≡◌}
use lib.ListN.{length}
use Rattle.prover_layer.specs.Passes.{Risen}
use Rattle.prover_layer.proofs.passes.differences.Given as goal

abbrev pub invariant-loop-y : goal.invariant-loop-y
invariant-loop-y l = (l.y ≤ l.half) × (length l.work ≡ length l.initial.work) × Risen l.initial.work l.work l.pq l.y

abbrev pub decreases-loop-y : goal.decreases-loop-y
decreases-loop-y l = l.half - l.y
