use Rattle.stored.proofs.ShapeLaws.{fitting_none, fitting_short, fitting_next}
use Rattle.stored.proofs.entries_fit.Goals as goal

pub returns-in_default : goal.returns-in_default
returns-in_default c = fitting_none _ _ _ _ _ c.loop-k.invariant c.loop-k-test.true c.in_default.ensures.cases

pub returns-then-after-size : goal.returns-then-after-size
returns-then-after-size c = fitting_short _ _ _ _ _ _ _ _ c.loop-k.invariant c.loop-k-test.true c.in-Some.ensures.cases.0 c.from-size.ensures c.if-after-size.true

pub loop-k-preserved : goal.loop-k-preserved
loop-k-preserved c = fitting_next _ _ _ _ _ _ _ _ c.loop-k.invariant c.loop-k-test.true c.in-Some.ensures.cases.0 c.from-size.ensures c.if-after-size.false
