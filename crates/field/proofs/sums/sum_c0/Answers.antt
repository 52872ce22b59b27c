use mathlib.Core.Path.{◌∙◌, ap, ap₂}
use Rattle.field.specs.Base.{add, mul}
use Rattle.field.specs.BaseRing.{of_add}
use Rattle.field.specs.Ext as E
use Rattle.field.proofs.LateSums.{both}
use borrow.Author.Rules.{rules}
use Rattle.field.proofs.sums.sum_c0.Goals as goal

pub returns : goal.returns
unfolding E.ext E.add E.mul
returns c = (
  search rules,
  c.rest_sum.ensures.1
      ∙ of_add _ _
      ∙ ap₂ add c.two.ensures.1 (c.eleven_sum.ensures.1 ∙ ap (mul E.eleven) (of_add _ _ ∙ ap₂ add (c.lowered-h.ensures.1 ∙ c.three.ensures.1) (c.lowered-k.ensures.1 ∙ c.three-2.ensures.1)))
      ∙ both _ _ _ _ _,
)
