use Rattle.std.proofs.Common.{ap, arith, get_or}
use Rattle.stored_sheet.proofs.SheetPuts.{sheet_put}
use Rattle.stored_sheet.proofs.put_sheet.Goals as goal

pub returns : goal.returns
returns c =
    let b = c.to_be_bytes.ensures in
    sheet_put c.args.rows.now _ _ _ _ _ _ _ _ _ _ _ (omega (arith, ap (λ l. get_or l 0 0) b)) (omega (arith, ap (λ l. get_or l 1 0) b)) c.put_byte-a.ensures c.put_byte-b.ensures c.put_byte-c.ensures c.put_words.ensures
