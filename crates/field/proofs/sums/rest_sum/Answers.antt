use Rattle.field.specs.BaseRing.{of_mod}
use borrow.Author.Rules.{rules}
use Rattle.field.proofs.sums.rest_sum.Goals as goal

pub returns : goal.returns
returns c = (search rules, of_mod _)
