use Rattle.sheet_text.proofs.Placing.{put_words}
use Rattle.std.proofs.Common.{arith}
use Rattle.wire.specs.Words.{ext_words}
use Rattle.sheet_text.proofs.list.put_element.Goals as goal

pub returns : goal.returns
returns c = put_words c.args.words.now c.args.at _ (ext_words c.args.e) c.requires c.copy_from_slice.ensures.after _ (omega arith)
