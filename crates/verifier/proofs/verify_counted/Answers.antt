use Rattle.std.proofs.Common.{refl}
use Rattle.transcript.specs.Log.{source_of, state}
use Rattle.transcript.proofs.Logs.{same_source}
use Rattle.verifier.proofs.CountLaws.{layers_stop, polys_stop, root_counted, ready_there, ready_read, ready_room, ready_enough, ready_q0, ready_claims}
use Rattle.verifier.proofs.verify_counted.Goals as goal

pub returns-then-layers-rounds-clause-counted : goal.returns-then-layers-rounds-clause-counted
returns-then-layers-rounds-clause-counted c = let a = c.args in
    let t = state a.transcript.now in
    let p = c.requires in
    layers_stop a.proof.now t (source_of t) a.rounds a.outline p.ready.some p.ready.shaped p.begun a.xi.now c.if-layers-rounds.true

pub returns-then-entries-expected-clause-counted : goal.returns-then-entries-expected-clause-counted
returns-then-entries-expected-clause-counted c = let a = c.args in
    let t = state a.transcript.now in
    let p = c.requires in
    polys_stop a.proof.now t (source_of t) a.rounds a.outline p.ready.some p.ready.shaped p.begun c.if-layers-rounds.false a.xi.now _ refl c.if-entries-expected.true

pub verify_all-requires-clause-read : goal.verify_all-requires-clause-read
verify_all-requires-clause-read c = let p = c.requires.ready in
    (p.some, ready_there p c.if-layers-rounds.false c.if-entries-expected.false, ready_read p c.if-layers-rounds.false c.if-entries-expected.false)

pub verify_all-requires-clause-room : goal.verify_all-requires-clause-room
verify_all-requires-clause-room c = let p = c.requires in
    (p.ready.room, ready_room p.ready p.begun c.is_sized.ensures c.observe_size.ensures.steps)

pub verify_all-requires-clause-enough : goal.verify_all-requires-clause-enough
verify_all-requires-clause-enough c = let p = c.requires in
    ready_enough p.ready c.is_sized.result p.begun c.observe_size.ensures.steps

pub verify_all-requires-clause-words : goal.verify_all-requires-clause-words
verify_all-requires-clause-words c = let p = c.requires.ready in
    (ready_q0 p, ready_claims p c.if-layers-rounds.false c.if-entries-expected.false)

pub returns-clause-counted : goal.returns-clause-counted
returns-clause-counted c = let a = c.args in
    let t = state a.transcript.now in
    let p = c.requires in
    let o = c.observe_size.ensures.steps in
    root_counted a.proof.now t (source_of t) a.rounds a.outline p.ready.some p.ready.shaped p.begun c.if-layers-rounds.false c.if-entries-expected.false
    c.verify_all.new.point _ (state c.verify_all.new.transcript) _ c.verify_all.result c.is_sized.ensures o (same_source o) c.verify_all.ensures.ended
