use Rattle.std.proofs.Common.{arith}
use Rattle.sizes.proofs.Sizing.{seek_next, seek_here, seek_end}
use Rattle.sizes.proofs.rounds_of.Goals as goal

pub returns-then-count-rows_of-clause-least : goal.returns-then-count-rows_of-clause-least
returns-then-count-rows_of-clause-least c = seek_here _ c.loop-n.n (omega arith) (omega (arith, c.rows_of.ensures)) c.loop-n.invariant

pub loop-n-preserved : goal.loop-n-preserved
loop-n-preserved c = seek_next _ c.loop-n.n (omega arith) (omega (arith, c.rows_of.ensures)) c.loop-n.invariant

pub returns-clause-least : goal.returns-clause-least
returns-clause-least c = seek_end _ c.loop-n.n (omega arith) (omega arith) c.loop-n.invariant
