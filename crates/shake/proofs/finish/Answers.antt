use Rattle.shake.proofs.SpongeLaws.{absorb_last}
use Rattle.shake.proofs.finish.Goals as goal

pub returns : goal.returns
returns c = absorb_last _ _ _ c.absorb-t.ensures.blocks_value c.absorb-t.ensures.holds.state c.absorb_block.ensures
