use Rattle.field.specs.Ext as E
use Rattle.field.specs.ExtRing.{ext_path}
use borrow.Author.Rules.{rules}
use Rattle.field.proofs.sums.sum_of_products.Goals as goal

pub returns : goal.returns
unfolding E.ext
returns c = record { canon = search rules; value = ext_path c.sum_c0.ensures.1 c.sum_c1.ensures.1 c.sum_c2.ensures.1 c.sum_c3.ensures.1 }
