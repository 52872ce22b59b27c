use mathlib.Core.Path.{◌∙◌, ap, ap₂}
use Rattle.field.specs.Base.{of, add, mul}
use Rattle.field.specs.BaseRing.{of_add, of_mul}
use Rattle.field.specs.Ext as E
use Rattle.field.proofs.LateSums.{both_three}
use borrow.Author.Rules.{rules}
use Rattle.field.proofs.sums.sum_c2.Goals as goal

pub returns : goal.returns
unfolding E.ext E.add E.mul
returns c = (
  search rules,
  c.rest_sum.ensures.1
      ∙ of_add _ _
      ∙ ap₂ add (of_add _ _ ∙ ap₂ add (c.lowered.ensures.1 ∙ of_add _ _ ∙ ap₂ add c.three.ensures.1 (ap of c.prod.ensures.0 ∙ of_mul _ _)) c.two-m.ensures.1) (c.eleven_sum.ensures.1 ∙ ap (mul E.eleven) c.two.ensures.1)
      ∙ both_three _ _ _ _ _ _ _,
)
