use mathlib.Core.Path.{◌∙◌}
use Rattle.field.specs.BaseRing.{of_mod, of_mul}
use Rattle.field.specs.Ext as E
use borrow.Author.Rules.{rules}
use Rattle.field.proofs.words.eleven.Goals as goal

pub returns : goal.returns
unfolding E.eleven
returns c = (search rules, of_mod _ ∙ of_mul _ _)
