use mathlib.Core.Path.{ap₂}
use Rattle.field.specs.Ext as E
use Rattle.field.specs.ElementLaws.{answer}
use Rattle.field.proofs.extension.ExtAdd.add.Goals as goal

pub returns : goal.returns
returns c = answer c.plus.ensures (ap₂ E.add c.reduced.ensures.value c.reduced-2.ensures.value)
