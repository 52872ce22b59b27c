use mathlib.Core.Path.{ap₂}
use Rattle.field.specs.Base as B
use Rattle.field.specs.ElementLaws.{base_answer}
use Rattle.field.proofs.base_field.BaseSub.sub.Goals as goal

pub returns : goal.returns
returns c = base_answer c.sub_word.ensures (ap₂ (λ s t. B.add s (B.neg t)) c.rest_word.ensures.1 c.rest_word-2.ensures.1)
