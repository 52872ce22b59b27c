use mathlib.Core.Path.{ap₂}
use Rattle.field.specs.Ext as E
use Rattle.field.specs.ElementLaws.{answer}
use Rattle.field.proofs.extension.ExtSub.sub.Goals as goal

pub returns : goal.returns
returns c = answer c.minus.ensures (ap₂ (λ s t. E.add s (E.neg t)) c.reduced.ensures.value c.reduced-2.ensures.value)
