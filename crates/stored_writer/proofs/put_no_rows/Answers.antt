use Rattle.stored_writer.proofs.WholeLaws.{empty_form}
use Rattle.stored_writer.proofs.PutLaws.{element_ends}
use native.Mathlib.Omega.{arith}
use Rattle.stored_writer.proofs.put_no_rows.Goals as goal

pub put_byte-c-requires : goal.put_byte-c-requires
put_byte-c-requires c = omega (arith, c.requires, c.put_header-a.ensures.ends, c.put_header-a.auto, element_ends _ c.put_element-b.ensures, c.put_element-b.auto)

pub put_byte-requires : goal.put_byte-requires
put_byte-requires c = omega (arith, c.requires, c.put_header-a.ensures.ends, c.put_header-a.auto, element_ends _ c.put_element-b.ensures, c.put_element-b.auto, c.put_byte-c.ensures.ends, c.put_byte-c.auto)

pub returns : goal.returns
returns c = empty_form _ _ _ _ _ _ _ _ _ _ c.put_header-a.ensures c.put_element-b.ensures c.put_byte-c.ensures c.put_byte.ensures
