use Rattle.std.proofs.lemmas.Result.{err_from_is_err_and}
use Rattle.stored_sheet.proofs.SheetPuts.{ragged, write_refused, write_bad, write_all}
use Rattle.stored_sheet.proofs.check_rows.Goals as goal

pub returns-then-rows-ne0 : goal.returns-then-rows-ne0
returns-then-rows-ne0 c = ragged _ _ c.if-rows-ne0.true

pub returns-in_err-check_size : goal.returns-in_err-check_size
returns-in_err-check_size c =
    let p = err_from_is_err_and c.from_residual.result c.from_residual.ensures.1 in
    rw (p.1, p.2) (write_refused _ _ c.if-rows-ne0.false _ c.in_err-check_size.ensures)

pub returns-in-Some : goal.returns-in-Some
returns-in-Some c = write_bad _ _ c.if-rows-ne0.false c.in-Some.place c.in_ok-check_size.ensures c.in-Some.ensures

pub returns : goal.returns
returns c = write_all _ _ c.if-rows-ne0.false c.in_ok-check_size.ensures c.in_default.ensures
