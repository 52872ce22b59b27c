use Prim.Native.Nat.{◌≤◌, ◌-◌}
use mathlib.Core.Path.{◌≡◌}
use lib.ListN.{length}
use Rattle.field.specs.Element.{dec}
use Rattle.prover_layer.specs.Columns.{Weighed}
use Rattle.prover_layer.proofs.weigh.Given as goal

abbrev pub invariant-loop-y : goal.invariant-loop-y
invariant-loop-y l = (l.y ≤ l.size) × (length l.work ≡ length l.initial.work) × Weighed l.initial.work l.work l.pq l.y (dec l.lambda)

abbrev pub decreases-loop-y : goal.decreases-loop-y
decreases-loop-y l = l.size - l.y
