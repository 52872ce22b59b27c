use Rattle.std.proofs.Common.{rules, ltb}
use Rattle.std.proofs.lemmas.Iterator.{YieldsList-from_slice}
use Rattle.std.proofs.lemmas.Iterator.Search.{all_from_yields_List}
use borrow.Author.Tests.{tests}
use Rattle.field.specs.Base.{P}
use Rattle.wire.proofs.Searches.{all_below}
use Rattle.wire.proofs.canonical_words.Goals as goal

pub returns : goal.returns
returns c = all_below _ _ (all_from_yields_List (λ w. ltb w P) _ _ _ c.all.ensures.ran (YieldsList-from_slice c.args.words.now cc) (λ x b q k. search (rules, tests)))
