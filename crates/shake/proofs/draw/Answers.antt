use mathlib.Core.Path.{◌∙◌}
use Rattle.shake.proofs.QuadLaws.{swapped_lane}
use Rattle.shake.proofs.SpongeLaws.{drawn_is}
use native.Mathlib.Omega.{arith}
use Rattle.shake.proofs.draw.Goals as goal

pub returns : goal.returns
returns c = (drawn_is _ _ (omega arith) c.finish-v.ensures (c.swap_bytes.ensures ∙ swapped_lane _), omega arith)
