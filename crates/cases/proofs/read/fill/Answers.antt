use Rattle.std.proofs.Common.{arith}
use Rattle.cases.proofs.Reading.{fill_turn}
use Rattle.cases.proofs.read.fill.Goals as goal

pub loop-slot-preserved : goal.loop-slot-preserved
loop-slot-preserved g c = fill_turn _ _ _ _ (omega (arith, c.loop-slot-test.true, c.loop-slot.auto)) c.loop-slot.invariant
