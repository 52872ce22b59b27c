use Rattle.stored_writer.proofs.PutLaws.{cubic_form, element_ends}
use native.Mathlib.Omega.{arith}
use Rattle.stored_writer.proofs.put_subround.Goals as goal

pub put_cell-b-requires : goal.put_cell-b-requires
put_cell-b-requires c = omega (arith, c.requires, element_ends _ c.put_cell-a.ensures, c.put_cell-a.auto)

pub put_cell-requires : goal.put_cell-requires
put_cell-requires c = omega (arith, c.requires, element_ends _ c.put_cell-a.ensures, c.put_cell-a.auto, element_ends _ c.put_cell-b.ensures, c.put_cell-b.auto)

pub returns : goal.returns
returns c = cubic_form _ _ _ _ _ _ _ _ _ _ _ c.put_cell-a.ensures c.put_cell-b.ensures c.put_cell.ensures
