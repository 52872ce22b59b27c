use mathlib.Core.Path.{◌∙◌, ap}
use Rattle.field.specs.declared.Base.{Base}
use Rattle.field.specs.Base as B
use Rattle.field.specs.Base.{of}
use Rattle.field.specs.BaseElement as W
use Rattle.field.specs.ExtRing.{arithmetic}
use Rattle.field_test.proofs.constants.of_base.Goals as goal

pub expect-requires : goal.expect-requires
unfolding arithmetic
expect-requires c = c.is_zero.ensures

pub expect-requires-2 : goal.expect-requires-2
unfolding arithmetic
expect-requires-2 c = c.equals.ensures ∙ ap (λ (b : Base). B.same (of 1) (W.dec b)) c.from.ensures

pub expect-requires-3 : goal.expect-requires-3
unfolding arithmetic
expect-requires-3 c = c.equals-2.ensures ∙ ap (λ (b : Base). B.same (of 2) (W.dec b)) c.double.ensures

pub expect-requires-4 : goal.expect-requires-4
unfolding arithmetic
expect-requires-4 c = c.equals-3.ensures ∙ ap (λ (b : Base). B.same (W.dec b) (of 1)) (c.mul.ensures ∙ ap (λ (b : Base). W.enc (B.mul (of 1006632961) (W.dec b))) c.from-2.ensures)

pub expect-requires-5 : goal.expect-requires-5
unfolding arithmetic
expect-requires-5 c = c.equals-4.ensures ∙ ap (λ (b : Base). B.same (W.dec b) (of 1)) (c.mul-2.ensures ∙ ap (λ (b : Base). W.enc (B.mul (of 1677721601) (W.dec b))) c.from-3.ensures)
