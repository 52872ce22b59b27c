use Rattle.std.proofs.Common.{arith}
use Rattle.wire.specs.WrittenLaws.{writing_next, writing_end}
use Rattle.wire.proofs.ByteLaws.{bytes_length}
use Rattle.wire.proofs.Runs.{words_turn, words_over, words_left}
use Rattle.wire.proofs.put_words.Goals as goal

pub put_word-p-requires : goal.put_word-p-requires
put_word-p-requires c = omega (arith, c.loop-word.invariant.ends, words_left c.args.words.now c.loop-word.word-index, bytes_length c.args.words.now)

pub loop-word-preserved : goal.loop-word-preserved
loop-word-preserved c = writing_next _ c.loop-word.out _ _ c.loop-word.p _ _ _ _ _ (words_turn c.args.words.now c.loop-word.word-index (omega arith)) c.loop-word.invariant c.put_word-p.ensures

pub returns : goal.returns
returns c = writing_end _ _ _ _ _ _ (words_over c.args.words.now c.loop-word.word-index (omega arith)) c.loop-word.invariant
