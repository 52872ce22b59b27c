use Rattle.field.specs.Ext as E
use Rattle.field.proofs.Residues.{is_four}
use Rattle.field.proofs.Ext.minus.Goals as goal

pub returns : goal.returns
unfolding E.ext E.add E.neg
returns c = is_four c.sub_word.ensures c.sub_word-2.ensures c.sub_word-3.ensures c.sub_word-4.ensures
