use Prim.Native.Nat.{◌≤◌, ◌-◌}
use mathlib.Core.Path.{◌≡◌}
use lib.ListN.{length}
use Rattle.field.specs.Cells.{cell}
use Rattle.prover_tree.specs.Nodes.{Filled}
use Rattle.prover_tree.proofs.put_leaves.Given as goal

abbrev pub invariant-loop-i : goal.invariant-loop-i
invariant-loop-i l = (l.i ≤ l.n) × (length l.work ≡ length l.initial.work) × Filled l.initial.work l.work l.n l.i (cell l.rows)

abbrev pub decreases-loop-i : goal.decreases-loop-i
decreases-loop-i l = l.n - l.i
