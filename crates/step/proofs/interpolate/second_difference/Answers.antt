use Rattle.field.specs.Element.{dec}
use Rattle.step.proofs.Algebra.{second_steps}
use Rattle.step.proofs.interpolate.second_difference.Goals as goal

pub returns : goal.returns
returns c = let a = c.args in
    record { canon = c.minus-3.ensures.canon; value = second_steps (dec a.e0) (dec a.e1) (dec a.e2) c.minus.ensures.value c.minus-2.ensures.value c.minus-3.ensures.value }
