use Rattle.stored_writer.proofs.PutLaws.{claims_form, element_ends}
use native.Mathlib.Omega.{arith}
use Rattle.stored_writer.proofs.put_claims.Goals as goal

pub put_cell-b-requires : goal.put_cell-b-requires
put_cell-b-requires c = omega (arith, c.requires, element_ends _ c.put_cell-a.ensures, c.put_cell-a.auto)

pub put_cell-c-requires : goal.put_cell-c-requires
put_cell-c-requires c = omega (arith, c.requires, element_ends _ c.put_cell-a.ensures, c.put_cell-a.auto, element_ends _ c.put_cell-b.ensures, c.put_cell-b.auto)

pub put_cell-requires : goal.put_cell-requires
put_cell-requires c = omega (arith, c.requires, element_ends _ c.put_cell-a.ensures, c.put_cell-a.auto, element_ends _ c.put_cell-b.ensures, c.put_cell-b.auto, element_ends _ c.put_cell-c.ensures, c.put_cell-c.auto)

pub returns : goal.returns
returns c = claims_form _ _ _ _ _ _ _ _ _ _ _ c.put_cell-a.ensures c.put_cell-b.ensures c.put_cell-c.ensures _ _ _ c.put_cell.ensures
