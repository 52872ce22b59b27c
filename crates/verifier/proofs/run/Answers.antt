use Rattle.std.proofs.Common.{refl, sym, ap, ◌∙◌, arith, ◌*◌, length, length-take-le}
use Rattle.std.proofs.lemmas.Grind.{common_steps}
use Rattle.field.specs.CellLaws.{clean_zeros}
use Rattle.refusal.specs.Limits.{max_rounds}
use Rattle.transcript.specs.Log.{state}
use Rattle.verifier.specs.Gates.{sandbox}
use Rattle.verifier.specs.Verified.{asked, lent, outcome}
use Rattle.verifier.proofs.GateLaws.{passes}
use Rattle.verifier.proofs.EndLaws.{ready_of, point_fits, run_is}
use Rattle.verifier.proofs.run.Goals as goal

pub needed_words-needs-requires : goal.needed_words-needs-requires
needed_words-needs-requires c = (passes c.requires).few

pub slice_bounds-new-end : goal.slice_bounds-new-end
slice_bounds-new-end c = sym (length-take-le _ c.args.challenges.now (omega (arith, (passes c.requires).chals, c.needed_words-needs.ensures)))

pub verify_counted-verdict-requires-clause-ready : goal.verify_counted-verdict-requires-clause-ready
verify_counted-verdict-requires-clause-ready c = let b = c.new-transcript.ensures.buffers in
    ready_of (asked c.args.proof.now c.args.rounds (sandbox c.args.drawn) c.args.challenges.now) _ (length c.args.point.now) b.0 b.1 b.2 c.requires refl c.needed_words-needs.ensures (omega arith) (clean_zeros (4 * max_rounds))

pub overflow_mul-rounds : goal.overflow_mul-rounds
overflow_mul-rounds c = omega (arith, (passes c.requires).few)

pub leave_point-requires : goal.leave_point-requires
leave_point-requires c = let p = passes c.requires in
    (point_fits _ _ p.few c.verify_counted-verdict.auto.xi, p.room)

pub returns : goal.returns
returns c = let N = c.new-transcript.ensures in
    let v = c.verify_counted-verdict in
    let same = sym (v.ensures.same ∙ N.same) in
    ap (λ r. outcome r.verdict r.used c.leave_point.new.point c.log-1.given.0) c.answer.ensures ∙
    run_is (asked c.args.proof.now c.args.rounds (sandbox c.args.drawn) c.args.challenges.now) (lent c.args.point.now c.args.log.now) _ (state c.new-transcript.result) (state v.new.transcript) v.new.xi
    N.buffers.0 N.buffers.1 N.buffers.2 c.requires refl c.needed_words-needs.ensures v.ensures.counted (point_fits _ _ (passes c.requires).few v.auto.xi) c.leave_point.ensures c.used_up.ensures (grind (arith, common_steps, same))
