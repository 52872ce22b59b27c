use Prim.Native.Nat.{◌-◌, ◌≤◌}
use lib.ListN.{length}
use Rattle.stored_test.proofs.run.Given as goal

abbrev pub invariant-loop-at : goal.invariant-loop-at
invariant-loop-at l = l.at ≤ length l.given

abbrev pub decreases-loop-at : goal.decreases-loop-at
decreases-loop-at l = length l.given - l.at
