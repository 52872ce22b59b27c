use mathlib.Core.Path.{◌∙◌, ap₂}
use Rattle.field.specs.Base.{add}
use Rattle.field.specs.BaseRing.{of_add}
use Rattle.field.specs.Ext as E
use Rattle.field.proofs.LateSums.{both_four}
use borrow.Author.Rules.{rules}
use Rattle.field.proofs.sums.sum_c3.Goals as goal

pub returns : goal.returns
unfolding E.ext E.add E.mul
returns c = (
  search rules,
  c.rest_sum.ensures.1
      ∙ of_add _ _
      ∙ ap₂ add (c.lowered.ensures.1 ∙ of_add _ _ ∙ ap₂ add c.two.ensures.1 c.two-2.ensures.1) (c.lowered-2.ensures.1 ∙ of_add _ _ ∙ ap₂ add c.two-3.ensures.1 c.two-4.ensures.1)
      ∙ both_four _ _ _ _ _ _,
)
