use Rattle.field.specs.BaseRing.{of_sub}
use Rattle.field.proofs.Residues.{diff}
use borrow.Author.Rules.{rules}
use Rattle.field.proofs.words.sub_word.Goals as goal

pub returns-then-b-a : goal.returns-then-b-a
returns-then-b-a c = (search rules, diff _ _ (search rules) (search rules))

pub returns-else-b-a : goal.returns-else-b-a
returns-else-b-a c = (search rules, of_sub _ _ (search rules))
