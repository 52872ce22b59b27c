use Rattle.shake.proofs.BlockLaws.{block_absorbed}
use Rattle.shake.proofs.absorb_block.Goals as goal

pub returns : goal.returns
returns c = block_absorbed _ _ _ c.block.ensures c.xor_block.ensures c.permute.ensures
