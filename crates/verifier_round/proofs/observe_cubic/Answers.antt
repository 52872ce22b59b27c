use Rattle.stored.specs.Shapes.{cubic_in}
use Rattle.verifier_round.specs.Values.{dec_cubic}
use Rattle.verifier_round.proofs.Observed.{three_observed}
use Rattle.verifier_round.proofs.observe_cubic.Goals as goal

pub returns-clause-steps : goal.returns-clause-steps
returns-clause-steps c = three_observed (dec_cubic (cubic_in c.args.m)) c.observe_ext.ensures.steps c.observe_ext-2.ensures.steps c.observe_ext-3.ensures.steps
