use Rattle.field.specs.Element.{dec}
use Rattle.step.proofs.Algebra.{cubic_steps}
use Rattle.step.proofs.interpolate.cubic_at.Goals as goal

pub times_plus-requires-3 : goal.times_plus-requires-3
times_plus-requires-3 c = (c.times_plus-2.ensures.canon, c.requires.4)

pub returns : goal.returns
returns c = let a = c.args in
    record { canon = c.times_plus-3.ensures.canon; value = cubic_steps (dec a.e0) (dec a.e1) (dec a.e2) (dec a.e3) (dec a.x) c.minus-d1.ensures.value c.second_difference-d2.ensures.value c.second_difference.ensures.value c.minus-d3.ensures.value c.times_word-half_d2.ensures.value c.times_word-sixth_d3.ensures.value c.minus.ensures.value c.times_plus.ensures.value c.minus-2.ensures.value c.times_plus-2.ensures.value c.times_plus-3.ensures.value }
