use mathlib.Core.Path.{◌∙◌, ap}
use Rattle.field.specs.Ext as E
use Rattle.field.specs.Element.{dec}
use Rattle.step.proofs.Algebra.{low_part}
use Rattle.step.proofs.double_entry.Goals as goal

pub returns : goal.returns
returns c = let a = c.args in
    (record { canon = c.minus.ensures.canon; value = c.minus.ensures.value ∙ ap (λ h. E.add (dec a.t) (E.neg h)) c.times-high.ensures.value ∙ low_part (dec a.t) (dec a.x) }, c.times-high.ensures)
