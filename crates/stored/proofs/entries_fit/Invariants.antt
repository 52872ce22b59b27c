use Prim.Native.Nat.{◌-◌}
use Rattle.stored.proofs.ShapeLaws.{Fitting}
use Rattle.stored.proofs.entries_fit.Given as goal

abbrev pub invariant-loop-k : goal.invariant-loop-k
invariant-loop-k l = Fitting l.proof l.from l.count l.rest l.k

abbrev pub decreases-loop-k : goal.decreases-loop-k
decreases-loop-k l = l.count - l.k
