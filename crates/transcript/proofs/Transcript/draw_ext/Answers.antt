use Rattle.std.proofs.Common.{◌+◌, arith}
use Rattle.transcript.specs.Log.{state}
use Rattle.transcript.proofs.DrawnLaws.{length_with, holds_with, drawn_is, drawn_steps}
use Rattle.transcript.proofs.Transcript.draw_ext.Goals as goal

pub draw_word-b-requires : goal.draw_word-b-requires
draw_word-b-requires c =
    let w = c.draw_word-a.ensures in
    (omega (arith, c.requires.room, length_with w), holds_with w (c.args.self.now.put + 1) (omega arith) (omega (arith, c.requires.room)))

pub draw_word-c-requires : goal.draw_word-c-requires
draw_word-c-requires c =
    let v = length_with c.draw_word-a.ensures in
    let w = c.draw_word-b.ensures in
    (omega (arith, c.requires.room, v, length_with w), holds_with w (c.args.self.now.put + 2) (omega arith) (omega (arith, c.requires.room, v)))

pub draw_word-d-requires : goal.draw_word-d-requires
draw_word-d-requires c =
    let u = length_with c.draw_word-a.ensures in
    let v = length_with c.draw_word-b.ensures in
    let w = c.draw_word-c.ensures in
    (omega (arith, c.requires.room, u, v, length_with w), holds_with w (c.args.self.now.put + 3) (omega arith) (omega (arith, c.requires.room, u, v)))

pub returns-clause-steps : goal.returns-clause-steps
returns-clause-steps c = drawn_steps (state c.args.self.now) c.requires.room c.draw_word-a.ensures c.draw_word-b.ensures c.draw_word-c.ensures c.draw_word-d.ensures

pub returns-clause-value : goal.returns-clause-value
returns-clause-value c = drawn_is (state c.args.self.now) c.requires.room c.draw_word-a.ensures c.draw_word-b.ensures c.draw_word-c.ensures c.draw_word-d.ensures
