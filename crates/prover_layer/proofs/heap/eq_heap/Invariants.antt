use Prim.Native.Nat.{suc, ◌≤◌, ◌-◌, ◌^◌}
use mathlib.Core.Path.{◌≡◌}
use lib.ListN.{length}
use Rattle.prover_layer.specs.Heap.{Heaped}
use Rattle.prover_layer.proofs.heap.eq_heap.Given as goal

abbrev pub invariant-loop-i : goal.invariant-loop-i
invariant-loop-i l = (l.i ≤ l.last) × (length l.work ≡ length l.initial.work) × (l.n ≡ 2 ^ l.i) × Heaped l.initial.work l.work l.xi l.eq l.round (suc l.i)

abbrev pub decreases-loop-i : goal.decreases-loop-i
decreases-loop-i l = l.last - l.i
