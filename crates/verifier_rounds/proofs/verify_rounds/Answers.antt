use Rattle.std.proofs.Common.{◌∙◌, arith}
use Rattle.std.proofs.lemmas.Result.{err_from_is_err_and}
use Rattle.transcript.proofs.Logs.{same_source}
use Rattle.verifier_rounds.proofs.Alike.{round_done_alike}
use Rattle.verifier_rounds.proofs.GoingLaws.{next_read, next_room, next_enough, going_stop, going_next, going_end}
use Rattle.verifier_rounds.proofs.verify_rounds.Goals as goal

pub verify_round-requires-clause-read : goal.verify_round-requires-clause-read
verify_round-requires-clause-read c = let r = next_read c.loop-round.invariant.1 c.loop-round-test.true in (r.claims_there, r.entry_there)

pub verify_round-requires-clause-room : goal.verify_round-requires-clause-room
verify_round-requires-clause-room c = let i = c.loop-round.invariant.1 in
    let t = c.loop-round-test.true in
    (omega (arith, c.requires.room.0, i.points, t), next_room i t)

pub verify_round-requires-clause-enough : goal.verify_round-requires-clause-enough
verify_round-requires-clause-enough c = next_enough c.loop-round.invariant.1 c.loop-round-test.true

pub verify_round-requires-clause-words : goal.verify_round-requires-clause-words
verify_round-requires-clause-words c = let r = next_read c.loop-round.invariant.1 c.loop-round-test.true in (r.claims_canon, r.entry_canon)

pub returns-in_err-s-clause-ended : goal.returns-in_err-s-clause-ended
returns-in_err-s-clause-ended c = let i = c.loop-round.invariant.1 in
    let p = err_from_is_err_and c.from_residual.result c.from_residual.ensures.1 in
    rw (p.1, p.2) (going_stop i c.loop-round-test.true (round_done_alike (same_source i.steps) c.verify_round.ensures.done) _ c.in_err-s.was)

pub loop-round-preserved : goal.loop-round-preserved
loop-round-preserved c = let i = c.loop-round.invariant in
    let v = c.verify_round in
    (v.ensures.same ∙ i.0, going_next i.1 c.loop-round-test.true (round_done_alike (same_source i.1.steps) v.ensures.done) _ c.in_ok-s.was v.auto.point)

pub returns-clause-ended : goal.returns-clause-ended
returns-clause-ended c = going_end c.loop-round.invariant.1 c.loop-round-test.false
