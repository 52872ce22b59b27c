use Rattle.stored.specs.Shapes.{cubic_in}
use Rattle.transcript.proofs.Logs.{same_source}
use Rattle.verifier_round.specs.Values.{dec_cubic}
use Rattle.verifier_round.proofs.Alike.{sampled_alike}
use Rattle.verifier_round.proofs.Observed.{sub_done}
use Rattle.verifier_round.proofs.sub_round.Goals as goal

pub returns-clause-checked : goal.returns-clause-checked
returns-clause-checked c =
    let o = c.observe_cubic.ensures.steps in
    let d = sampled_alike (same_source o) (c.sample_ext-rho.ensures.steps, c.sample_ext-rho.ensures.value) in
    sub_done _ _ (dec_cubic (cubic_in c.args.m)) c.args.s o d c.store.ensures c.load-xi.ensures c.next_claim-claim.ensures c.eq_step-eq.ensures
