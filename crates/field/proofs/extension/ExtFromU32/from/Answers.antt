use Rattle.field.specs.Base as B
use Rattle.field.specs.Ext as E
use Rattle.field.proofs.extension.ExtFromU32.from.Goals as goal

pub returns : goal.returns
unfolding E.emb E.ext B.nil
returns c = c.new.ensures
