use mathlib.Core.Path.{ap}
use Rattle.field.specs.Ext as E
use Rattle.field.specs.ElementLaws.{is_eq}
use Rattle.field.specs.Element.{dec}
use Rattle.step.proofs.Algebra.{agree_steps, one_is}
use Rattle.step.proofs.eq.eq_step.Goals as goal

pub returns : goal.returns
returns c = let a = c.args in
    is_eq c.times.ensures
    (ap (λ (t : E.Ext). E.mul (dec a.eq) t)
    (agree_steps (dec a.x) (dec a.y) c.times-both.ensures.value c.plus.ensures.value one_is c.minus.ensures.value c.minus-2.ensures.value c.plus-2.ensures.value))
