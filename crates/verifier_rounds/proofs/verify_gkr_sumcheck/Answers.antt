use Rattle.std.proofs.Common.{◌∙◌, arith}
use Rattle.transcript.proofs.Logs.{same_source}
use Rattle.verifier_round.proofs.Alike.{sub_round_alike}
use Rattle.verifier_rounds.proofs.SubLaws.{sub_canon, sub_next, sub_end}
use Rattle.verifier_rounds.proofs.verify_gkr_sumcheck.Goals as goal

pub sub_round_at-s-requires-clause-clean : goal.sub_round_at-s-requires-clause-clean
sub_round_at-s-requires-clause-clean c = let i = c.loop-j.invariant.1 in (i.clean, sub_canon i c.loop-j-test.true, i.canon)

pub loop-j-preserved : goal.loop-j-preserved
loop-j-preserved c = let i = c.loop-j.invariant in
    let s = c.sub_round_at-s in
    (s.ensures.same ∙ i.0, sub_next i.1 (omega arith) c.loop-j-test.true s.auto.point (sub_round_alike (same_source i.1.steps) s.ensures.checked))

pub returns-clause-summed : goal.returns-clause-summed
returns-clause-summed c = sub_end c.loop-j.invariant.1 c.loop-j-test.false
