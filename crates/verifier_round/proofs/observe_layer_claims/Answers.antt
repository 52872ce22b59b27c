use Rattle.stored.specs.Shapes.{claims_in}
use Rattle.verifier_round.specs.Values.{dec_claims}
use Rattle.verifier_round.proofs.Observed.{claims_observed}
use Rattle.verifier_round.proofs.observe_layer_claims.Goals as goal

pub returns-clause-steps : goal.returns-clause-steps
returns-clause-steps c =
    claims_observed (dec_claims (claims_in c.args.c)) c.observe_ext.ensures.steps c.observe_ext-2.ensures.steps c.observe_ext-3.ensures.steps c.observe_ext-4.ensures.steps
