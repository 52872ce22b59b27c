use Prim.Native.Nat.{◌-◌, ◌≤◌}
use Rattle.stored_test.proofs.sheet_prefixes.Given as goal

abbrev pub invariant-loop-k : goal.invariant-loop-k
invariant-loop-k l = l.k ≤ 4096

abbrev pub decreases-loop-k : goal.decreases-loop-k
decreases-loop-k l = 4096 - l.k
