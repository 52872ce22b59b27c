use Rattle.std.proofs.Common.{◌∙◌, ap, arith}
use Rattle.std.proofs.Math.ListN.{set}
use Rattle.wire.proofs.Runs.{copy_none, copy_more}
use Rattle.wire.proofs.copy_words.Goals as goal

pub loop-i-init : goal.loop-i-init
loop-i-init c = copy_none c.args.bytes.now c.args.words.now c.args.at

pub loop-i-preserved : goal.loop-i-preserved
loop-i-preserved c = ap (λ l. set l c.loop-i.i c.word_at.result) c.loop-i.invariant ∙ copy_more c.args.bytes.now c.args.words.now c.args.at c.loop-i.i c.word_at.result (omega arith) c.word_at.ensures
