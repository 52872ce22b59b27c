use Rattle.prover_run.proofs.Whole.{planted}
use Rattle.prover_run.proofs.sum_rows.Goals as goal

pub returns : goal.returns
returns c = planted _ _ _ _ _ c.build.ensures c.load_node.ensures
