use Rattle.field.specs.BaseRing.{of_mod}
use borrow.Author.Rules.{rules}
use Rattle.field.proofs.words.rest_word.Goals as goal

pub returns : goal.returns
returns c = (search rules, of_mod _)
