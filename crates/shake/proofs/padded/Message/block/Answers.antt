use Rattle.shake.proofs.BlockLaws.{all_filled}
use Rattle.shake.proofs.padded.Message.block.Goals as goal

pub returns : goal.returns
returns c = all_filled _ _ c.loop-n.invariant c.loop-n-test.false
