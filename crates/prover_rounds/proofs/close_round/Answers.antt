use native.Mathlib.Omega.{arith}
use Rattle.transcript.specs.Log.{source_of, state}
use Rattle.transcript.proofs.Logs.{same_source, then}
use Rattle.prover_rounds.proofs.Room.{room_after, round_closed}
use Rattle.prover_rounds.proofs.Descent.{layer_closed}
use Rattle.prover_rounds.proofs.close_round.Goals as goal

pub observe_fraction-requires-2-clause-room : goal.observe_fraction-requires-2-clause-room
observe_fraction-requires-2-clause-room c = room_after 8 (omega arith) (omega (arith, c.requires.room)) c.observe_fraction.ensures.steps

pub sample_ext-mu-requires-clause-room : goal.sample_ext-mu-requires-clause-room
sample_ext-mu-requires-clause-room c = room_after 4 (omega arith) (omega (arith, c.requires.room)) (then c.observe_fraction.ensures.steps c.observe_fraction-2.ensures.steps)

pub returns-clause-closed : goal.returns-clause-closed
returns-clause-closed c =
    let a = c.observe_fraction.ensures.steps in
    let b = c.observe_fraction-2.ensures.steps in
    let d = c.sample_ext-mu in
    let h = same_source (then a b) in
    layer_closed _ (source_of (state c.args.transcript.now)) c.args.pq d.result _ _ c.load_node.ensures c.load_node-2.ensures a b (rw h at d.ensures.steps) (rw h at d.ensures.value) c.store.ensures

pub returns-clause-length : goal.returns-clause-length
returns-clause-length c = round_closed c.requires.room.2 (returns-clause-closed c)
