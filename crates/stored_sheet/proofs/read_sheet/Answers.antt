use Rattle.std.proofs.Common.{arith}
use Rattle.stored_sheet.proofs.SheetSteps.{read_room, read_rows}
use Rattle.stored_sheet.proofs.read_sheet.Goals as goal

pub overflow_mul-count : goal.overflow_mul-count
overflow_mul-count c = omega (arith, read_room c.args.bytes.now c.args.rows.now _ c.in_ok-count.ensures)

pub copy_words-requires : goal.copy_words-requires
copy_words-requires c = read_room c.args.bytes.now c.args.rows.now _ c.in_ok-count.ensures

pub returns : goal.returns
returns c = read_rows c.args.bytes.now c.args.rows.now _ c.in_ok-count.ensures _ c.copy_words.ensures
