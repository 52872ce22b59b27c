use mathlib.Core.Path.{◌∙◌, ap}
use Rattle.field.specs.declared.Ext.{Ext}
use Rattle.field.specs.Element.{same_words}
use Rattle.field.specs.ExtRing.{arithmetic}
use Rattle.field_test.proofs.constants.of_extension.Goals as goal

pub expect-requires : goal.expect-requires
unfolding same_words arithmetic
expect-requires c = c.eq.ensures ∙ ap (λ (b : Ext). same_words (record { c0 = 0; c1 = 0; c2 = 0; c3 = 0 }) b) c.from.ensures

pub expect-requires-2 : goal.expect-requires-2
unfolding same_words arithmetic
expect-requires-2 c = c.eq-2.ensures ∙ ap (λ (b : Ext). same_words (record { c0 = 1; c1 = 0; c2 = 0; c3 = 0 }) b) c.from-2.ensures

pub expect-requires-3 : goal.expect-requires-3
unfolding same_words arithmetic
expect-requires-3 c = c.eq-3.ensures ∙ ap (λ (b : Ext). same_words (record { c0 = 2; c1 = 0; c2 = 0; c3 = 0 }) b) c.double.ensures

pub expect-requires-4 : goal.expect-requires-4
unfolding same_words arithmetic
expect-requires-4 c = c.eq-4.ensures ∙ ap (λ (b : Ext). same_words (record { c0 = 1006632961; c1 = 0; c2 = 0; c3 = 0 }) b) c.from-3.ensures

pub expect-requires-5 : goal.expect-requires-5
unfolding same_words arithmetic
expect-requires-5 c = c.eq-5.ensures ∙ ap (λ (b : Ext). same_words (record { c0 = 1677721601; c1 = 0; c2 = 0; c3 = 0 }) b) c.from-4.ensures
