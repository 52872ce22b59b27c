use Rattle.step.proofs.Pairs.{summand_is}
use Rattle.step.proofs.summand.Goals as goal

pub returns : goal.returns
returns c = summand_is _ _ _ c.weigh_entry.ensures _ c.weighed_summand.ensures
