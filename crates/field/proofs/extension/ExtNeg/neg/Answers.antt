use mathlib.Core.Path.{ap, ◌∙◌}
use Rattle.field.specs.Ext as E
use Rattle.field.specs.ExtRing.{from_zero}
use Rattle.field.specs.ElementLaws.{answer}
use Rattle.field.proofs.extension.ExtNeg.neg.Goals as goal

pub returns : goal.returns
returns c = answer c.minus.ensures (ap (λ t. E.add (E.ext 0 0 0 0) (E.neg t)) c.reduced.ensures.value ∙ from_zero _)
