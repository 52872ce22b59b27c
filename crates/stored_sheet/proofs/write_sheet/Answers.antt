use Rattle.stored_sheet.proofs.SheetPuts.{write_room, write_rows}
use Rattle.stored_sheet.proofs.write_sheet.Goals as goal

pub put_sheet-requires : goal.put_sheet-requires
put_sheet-requires c = write_room c.args.rows.now c.args.out.now _ c.in_ok-bytes.ensures

pub returns : goal.returns
returns c = write_rows c.args.rows.now c.args.out.now _ c.in_ok-bytes.ensures _ _ c.put_sheet.ensures
