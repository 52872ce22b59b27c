use mathlib.Core.Path.{refl}
use Rattle.field.specs.ElementLaws.{base_answer}
use Rattle.field.proofs.base_field.BaseMul.mul.Goals as goal

pub returns : goal.returns
returns c = base_answer c.mul_word.ensures refl
