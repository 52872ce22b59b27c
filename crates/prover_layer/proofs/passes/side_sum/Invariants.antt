use Prim.Native.Nat.{◌≤◌, ◌-◌}
use Rattle.field.specs.Element.{Is}
use Rattle.prover_layer.specs.Passes.{side_sum}
use Rattle.prover_layer.proofs.passes.side_sum.Given as goal

abbrev pub invariant-loop-y : goal.invariant-loop-y
invariant-loop-y l = (l.y ≤ l.half) × Is l.acc (side_sum l.work l.at l.pq l.off l.y)

abbrev pub decreases-loop-y : goal.decreases-loop-y
decreases-loop-y l = l.half - l.y
