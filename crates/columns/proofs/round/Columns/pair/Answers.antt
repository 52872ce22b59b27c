use Rattle.columns.proofs.Summands.{pair_summands}
use Rattle.columns.proofs.round.Columns.pair.Goals as goal

pub returns : goal.returns
returns c = pair_summands _ _ _ c.args.y _ _ _ c.entry.ensures c.entry-2.ensures c.summands.ensures
