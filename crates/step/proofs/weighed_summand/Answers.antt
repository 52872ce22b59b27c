use mathlib.Core.Path.{◌∙◌, ap}
use Rattle.field.specs.Ext as E
use Rattle.field.specs.Element.{dec}
use Rattle.step.proofs.weighed_summand.Goals as goal

pub returns : goal.returns
returns c = record { canon = c.times.ensures.canon; value = c.times.ensures.value ∙ ap (E.mul (dec c.args.t.e)) c.sum_of_products.ensures.value }
