use Rattle.stored_writer.proofs.PutLaws.{cell_form}
use Rattle.stored_writer.proofs.put_cell.Goals as goal

pub returns : goal.returns
returns c = cell_form _ _ c.args.log.now _ _ c.args.i c.put_element.ensures
