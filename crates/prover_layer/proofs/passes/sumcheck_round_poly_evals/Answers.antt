use mathlib.Core.Path.{◌∙◌}
use Rattle.prover_layer.proofs.Saying.{said_by}
use Rattle.prover_layer.proofs.Passing.{lead_is}
use Rattle.prover_layer.proofs.passes.sumcheck_round_poly_evals.Goals as goal

pub returns : goal.returns
returns c = (said_by c.args.t (c.side_sum.ensures.value ∙ lead_is _ _ c.args.at c.args.pq c.args.half c.requires.room.0 c.differences.ensures) c.message.ensures, c.differences.ensures)
