use Rattle.step.proofs.Pairs.{summands_of}
use Rattle.step.proofs.summands.Goals as goal

pub returns : goal.returns
returns c = summands_of _ _ _ _ _ c.weigh_entry.ensures c.weigh_entry-2.ensures _ c.weighed_summands.ensures
