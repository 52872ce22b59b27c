use mathlib.Core.Path.{◌∙◌}
use Rattle.field.proofs.LateSums.{nothing_more}
use Rattle.field.proofs.Ext.times.Goals as goal

pub returns : goal.returns
returns c = record { canon = c.times_plus.ensures.canon; value = c.times_plus.ensures.value ∙ nothing_more _ }
