use Rattle.field.proofs.LateSums.{less}
use borrow.Author.Rules.{rules}
use Rattle.field.proofs.sums.lowered.Goals as goal

pub returns-else-s-lt8106479337319956482 : goal.returns-else-s-lt8106479337319956482
returns-else-s-lt8106479337319956482 c = (search rules, less _ (search rules))
