use mathlib.Core.Path.{refl}
use Rattle.field.specs.ElementLaws.{base_answer}
use Rattle.field.proofs.base_field.BaseFromU32.from.Goals as goal

pub returns : goal.returns
returns c = base_answer c.rest_word.ensures refl
