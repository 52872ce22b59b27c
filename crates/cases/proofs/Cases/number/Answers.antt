use Rattle.std.proofs.Common.{refl, ◌∙◌}
use Rattle.cases.specs.Text.{number_at}
use Rattle.cases.proofs.Reading.{digit_more, digit_ends, text_ends}
use Rattle.cases.proofs.Cases.number.Goals as goal

pub loop-self-init : goal.loop-self-init
unfolding number_at
loop-self-init c = (refl, refl)

pub returns-then-d-gt9-clause-value : goal.returns-then-d-gt9-clause-value
returns-then-d-gt9-clause-value c = digit_ends _ _ _ c.loop-self-test.true _ c.digit-d.ensures c.if-d-gt9.true ∙ c.loop-self.invariant.1

pub loop-self-preserved : goal.loop-self-preserved
loop-self-preserved c = (c.loop-self.invariant.0, digit_more _ _ _ c.loop-self-test.true _ _ c.digit-d.ensures c.if-d-gt9.false c.grow-value.ensures ∙ c.loop-self.invariant.1)

pub returns-clause-value : goal.returns-clause-value
returns-clause-value c = text_ends _ _ _ c.loop-self-test.false ∙ c.loop-self.invariant.1
