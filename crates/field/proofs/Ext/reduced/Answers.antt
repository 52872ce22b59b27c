use Rattle.field.specs.Ext as E
use Rattle.field.proofs.Residues.{is_four}
use Rattle.field.proofs.Ext.reduced.Goals as goal

pub returns : goal.returns
unfolding E.ext
returns c = is_four c.rest_word.ensures c.rest_word-2.ensures c.rest_word-3.ensures c.rest_word-4.ensures
