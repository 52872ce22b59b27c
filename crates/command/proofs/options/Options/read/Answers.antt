use Rattle.std.proofs.Common.{sym, ◌∙◌}
use Rattle.command.proofs.Folding.{turn, ends}
use Rattle.command.proofs.options.Options.read.Goals as goal

pub loop-k-preserved : goal.loop-k-preserved
loop-k-preserved c = c.loop-k.invariant ∙ turn _ _ _ _ _ _ c.loop-k-test.true c.word_at.ensures c.take-options.ensures

pub returns : goal.returns
returns c = sym (c.loop-k.invariant ∙ ends _ _ _ _ c.loop-k-test.false)
