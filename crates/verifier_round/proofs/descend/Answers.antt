use Rattle.stored.specs.Shapes.{claims_in}
use Rattle.verifier_round.specs.Values.{dec_claims}
use Rattle.verifier_round.proofs.Observed.{descended}
use Rattle.verifier_round.proofs.descend.Goals as goal

pub returns-clause-descended : goal.returns-clause-descended
returns-clause-descended c =
    descended _ (dec_claims (claims_in c.args.c)) c.sample_ext-mu.ensures.steps c.sample_ext-mu.ensures.value c.store.ensures c.reduce_to_single_evaluation.ensures
