use Rattle.std.proofs.Common.{arith}
use Rattle.wire.proofs.Steps.{stored_go, stored_found, stored_none}
use Rattle.wire.proofs.first_bad_stored.Goals as goal

pub returns-then-word_at-ge-ORDER_U32 : goal.returns-then-word_at-ge-ORDER_U32
returns-then-word_at-ge-ORDER_U32 c = stored_found _ _ _ c.loop-i.i c.word_at.result c.loop-i-test.true c.word_at.ensures c.if-word_at-ge-ORDER_U32.true c.loop-i.invariant

pub loop-i-preserved : goal.loop-i-preserved
loop-i-preserved c = omega (arith, c.loop-i.invariant, stored_go c.args.bytes.now c.args.at c.args.n c.loop-i.i c.word_at.result c.loop-i-test.true c.word_at.ensures c.if-word_at-ge-ORDER_U32.false)

pub returns : goal.returns
returns c = stored_none _ _ _ c.loop-i.i c.loop-i-test.false c.loop-i.invariant
