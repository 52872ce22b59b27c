use mathlib.Core.Path.{ap₂}
use Rattle.field.specs.Ext as E
use Rattle.field.specs.ElementLaws.{answer}
use Rattle.field.proofs.extension.ExtMul.mul.Goals as goal

pub returns : goal.returns
returns c = answer c.times.ensures (ap₂ E.mul c.reduced.ensures.value c.reduced-2.ensures.value)
