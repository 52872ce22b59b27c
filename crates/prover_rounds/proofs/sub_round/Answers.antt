use native.Mathlib.Omega.{arith}
use Rattle.transcript.specs.Log.{source_of, state}
use Rattle.transcript.proofs.Logs.{same_source}
use Rattle.prover_rounds.proofs.Room.{room_after}
use Rattle.prover_rounds.proofs.Sending.{sub_done}
use Rattle.prover_rounds.proofs.sub_round.Goals as goal

pub sample_ext-rho-requires-clause-room : goal.sample_ext-rho-requires-clause-room
sample_ext-rho-requires-clause-room c = room_after 4 (omega arith) (omega (arith, c.requires.room)) c.observe_round_poly.ensures.steps

pub returns-clause-sent : goal.returns-clause-sent
returns-clause-sent c =
    let a = c.args in
    let p = c.observe_round_poly.ensures.steps in
    let d = c.sample_ext-rho in
    let h = same_source p in
    let m = c.sumcheck_round_poly_evals-s in
    sub_done _ _ _ (source_of (state a.transcript.now)) a.at a.pq a.half a.t d.result m.result
    m.ensures.0 m.ensures.1 p (rw h at d.ensures.steps) (rw h at d.ensures.value) c.store.ensures c.fold_mle_evals.ensures
