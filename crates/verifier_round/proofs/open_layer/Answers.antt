use Rattle.verifier_round.proofs.Observed.{opened}
use Rattle.verifier_round.proofs.open_layer.Goals as goal

pub returns-clause-opened : goal.returns-clause-opened
returns-clause-opened c = opened _ c.args.s c.sample_ext-lambda.ensures.steps c.sample_ext-lambda.ensures.value c.times.ensures c.plus-claim.ensures c.load-xi.ensures
