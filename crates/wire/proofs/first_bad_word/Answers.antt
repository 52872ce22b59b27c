use Rattle.std.proofs.Common.{rules, leb}
use Rattle.std.proofs.lemmas.Iterator.{YieldsList-from_slice}
use Rattle.std.proofs.lemmas.Iterator.Search.{position_from_yields_List}
use borrow.Author.Tests.{tests}
use Rattle.field.specs.Base.{P}
use Rattle.wire.proofs.Searches.{first_not_below}
use Rattle.wire.proofs.first_bad_word.Goals as goal

pub returns : goal.returns
returns c = first_not_below _ _ (position_from_yields_List (λ w. leb P w) _ _ _ c.position.ensures.ran (YieldsList-from_slice c.args.words.now cc) (λ x b q k. search (rules, tests)))
