use Rattle.wire.proofs.Steps.{elem_read}
use Rattle.wire.proofs.element_at.Goals as goal

pub returns : goal.returns
returns c = elem_read c.args.bytes.now c.args.at c.word_at.result c.word_at-2.result c.word_at-3.result c.word_at-4.result c.word_at.ensures c.word_at-2.ensures c.word_at-3.ensures c.word_at-4.ensures
