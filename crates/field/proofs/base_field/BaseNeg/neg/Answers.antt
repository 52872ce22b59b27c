use mathlib.Core.Path.{◌∙◌, ap}
use Rattle.field.specs.Base as B
use Rattle.field.specs.Base.{of}
use Rattle.field.specs.BaseRing.{from_zero}
use Rattle.field.specs.ElementLaws.{base_answer}
use Rattle.field.proofs.base_field.BaseNeg.neg.Goals as goal

pub returns : goal.returns
returns c = base_answer c.sub_word.ensures (ap (λ t. B.add (of 0) (B.neg t)) c.rest_word.ensures.1 ∙ from_zero _)
