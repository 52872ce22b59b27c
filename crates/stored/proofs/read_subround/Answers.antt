use Rattle.stored.proofs.ShapeLaws.{cubic_read}
use Rattle.stored.proofs.read_subround.Goals as goal

pub returns : goal.returns
returns c = cubic_read c.args.proof.now c.args.at _ _ _ c.element_at.ensures c.element_at-2.ensures c.element_at-3.ensures
