use mathlib.Core.Path.{refl}
use Prim.Native.Nat.{◌*◌}
use lib.Seq.{length-take-le}
use Rattle.prover.proofs.Opening.{run_room, rows_room, parts_room, supplied_part}
use Rattle.prover.proofs.Parts.{run_parts}
use Rattle.prover.proofs.admitted.Goals as goal

pub prove-requires-clause-room : goal.prove-requires-clause-room
prove-requires-clause-room c =
    let a = c.args in
    let p = parts_room _ _ _ _ c.requires c.needed_words-need.ensures c.work_words-w.ensures in
    run_room a.rows.now a.modes a.challenges.now _ _ c.needed_words-need.result c.work_words-w.result c.requires c.if-n-eq0.false c.needed_words-need.ensures c.work_words-w.ensures
    (length-take-le _ a.challenges.now p.0) refl (length-take-le _ a.point.now p.1) refl (length-take-le _ a.work.now p.2)

pub prove-requires-clause-clean : goal.prove-requires-clause-clean
prove-requires-clause-clean c = (rows_room _ _ _ _ c.requires c.if-n-eq0.false, c.requires.clean, supplied_part _ _ _ _ c.requires c.needed_words-need.ensures)

pub returns : goal.returns
returns c =
    let a = c.args in
    let p = parts_room _ _ _ _ c.requires c.needed_words-need.ensures c.work_words-w.ensures in
    run_parts a.rows.now a.challenges.now _ a.point.now _ a.work.now a.modes a.n c.needed_words-need.result (4 * a.n) c.work_words-w.result _ _ _ _ _ c.if-n-eq0.false c.needed_words-need.ensures refl c.work_words-w.ensures p.1 p.2 c.prove.ensures
