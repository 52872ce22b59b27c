use Rattle.field.specs.Element.{dec}
use Rattle.step.proofs.Algebra.{quadratic_steps}
use Rattle.step.proofs.interpolate.quadratic_at.Goals as goal

pub returns : goal.returns
returns c = let a = c.args in
    record { canon = c.times_plus-2.ensures.canon; value = quadratic_steps (dec a.e0) (dec a.e1) (dec a.e2) (dec a.x) c.minus-d1.ensures.value c.second_difference-d2.ensures.value c.times_word-half_d2.ensures.value c.minus.ensures.value c.times_plus.ensures.value c.times_plus-2.ensures.value }
