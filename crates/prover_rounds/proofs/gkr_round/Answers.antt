use mathlib.Core.Path.{◌∙◌}
use Prim.Native.Nat.{◌*◌}
use native.Mathlib.Omega.{arith}
use lib.Pow.{pow_pos}
use Rattle.transcript.specs.Log.{source_of, state}
use Rattle.transcript.proofs.Logs.{same_source, then}
use Rattle.prover_rounds.proofs.Room.{room_after, kept_length}
use Rattle.prover_rounds.proofs.Descent.{one_layer}
use Rattle.prover_rounds.proofs.gkr_round.Goals as goal

pub sub_rounds-requires-clause-room : goal.sub_rounds-requires-clause-room
sub_rounds-requires-clause-room c =
    let p = c.requires in
    let r = room_after (16 * c.args.round) (omega (arith, p.size)) (omega (arith, p.room)) c.sample_ext-lambda.ensures.steps in
    (p.room.0, r)

pub close_round-requires-clause-room : goal.close_round-requires-clause-room
close_round-requires-clause-room c =
    let p = c.requires in
    let r = room_after 20 (omega arith) (omega (arith, p.room)) (then c.sample_ext-lambda.ensures.steps c.sub_rounds.ensures.sent.steps) in
    (omega (arith, p.size.0, pow_pos c.args.round, p.layer, c.eq_heap.auto, c.sub_rounds.auto), omega (arith, p.room.0, c.sub_rounds.auto), r)

pub returns-clause-layer : goal.returns-clause-layer
returns-clause-layer c =
    let a = c.args in
    let p = c.requires in
    let d = c.sample_ext-lambda in
    let s = c.sub_rounds.ensures.sent in
    let h = same_source d.ensures.steps in
    let k = same_source (then d.ensures.steps s.steps) in
    one_layer _ _ _ _ _ _ (source_of (state a.transcript.now)) a.eq a.round a.size d.result _ p.size.0 p.size.1 p.layer.0
    d.ensures.steps d.ensures.value c.first_turn-first.ensures c.eq_heap.ensures (rw h at s) (rw k at c.close_round.ensures.closed)

pub returns-clause-length : goal.returns-clause-length
returns-clause-length c =
    let r = c.requires.room in
    let a = then c.sample_ext-lambda.ensures.steps c.sub_rounds.ensures.sent.steps in
    c.close_round.ensures.length ∙ kept_length 20 (omega arith) (omega (arith, r)) a
