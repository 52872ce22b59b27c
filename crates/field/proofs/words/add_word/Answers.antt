use mathlib.Core.Path.{◌∙◌}
use Rattle.field.specs.BaseRing.{of_add}
use Rattle.field.proofs.Residues.{over}
use native.Mathlib.Omega.{arith}
use Rattle.field.proofs.words.add_word.Goals as goal

pub returns-then-s-lt-ORDER_U32 : goal.returns-then-s-lt-ORDER_U32
returns-then-s-lt-ORDER_U32 c = (omega arith, of_add _ _)

pub returns-else-s-lt-ORDER_U32 : goal.returns-else-s-lt-ORDER_U32
returns-else-s-lt-ORDER_U32 c = (omega arith, over _ (omega arith) ∙ of_add _ _)
