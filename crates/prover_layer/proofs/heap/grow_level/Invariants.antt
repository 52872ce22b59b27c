use Prim.Native.Nat.{◌*◌, ◌≤◌, ◌-◌}
use mathlib.Core.Path.{◌≡◌}
use lib.ListN.{length}
use Rattle.field.specs.Element.{dec}
use Rattle.prover_tree.specs.Nodes.{Filled}
use Rattle.prover_layer.specs.Heap.{grown}
use Rattle.prover_layer.proofs.heap.grow_level.Given as goal

abbrev pub invariant-loop-i : goal.invariant-loop-i
invariant-loop-i l = (l.i ≤ l.size) × (length l.work ≡ length l.initial.work) × Filled l.initial.work l.work l.to (2 * l.i) (grown l.initial.work l.from (dec l.x))

abbrev pub decreases-loop-i : goal.decreases-loop-i
decreases-loop-i l = l.size - l.i
