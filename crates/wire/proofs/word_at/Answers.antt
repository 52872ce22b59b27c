use Rattle.std.proofs.Common.{◌∙◌}
use Rattle.wire.proofs.Steps.{word_read}
use Rattle.wire.proofs.word_at.Goals as goal

pub returns : goal.returns
returns c = c.from_be_bytes.ensures ∙ word_read c.args.bytes.now c.args.at
