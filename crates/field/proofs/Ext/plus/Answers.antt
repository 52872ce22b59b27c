use Rattle.field.specs.Ext as E
use Rattle.field.proofs.Residues.{is_four}
use Rattle.field.proofs.Ext.plus.Goals as goal

pub returns : goal.returns
unfolding E.ext E.add E.neg
returns c = is_four c.add_word.ensures c.add_word-2.ensures c.add_word-3.ensures c.add_word-4.ensures
