use Rattle.field.specs.Element.{dec}
use Rattle.columns.specs.Passes.{claims, Sums}
use Rattle.columns.proofs.round.Columns.sums.Given as goal

abbrev pub invariant-loop-y : goal.invariant-loop-y
invariant-loop-y l = Sums l.acc l.y l.self.eq.now (claims l.self.p0.now l.self.q0.now l.self.p1.now l.self.q1.now) (dec l.lambda)
