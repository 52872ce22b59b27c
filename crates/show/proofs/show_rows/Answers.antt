-- The rows that were read stand in the lent words.
use Rattle.std.proofs.Common.{sym, arith}
use lib.Seq.{length-take-le}
use Rattle.stored_sheet.proofs.SheetLaws.{read_most, read_fits}
use Rattle.show.proofs.show_rows.Goals as goal

pub overflow_mul-count : goal.overflow_mul-count
overflow_mul-count c =
    let h = read_most _ c.args.rows.now _ _ c.read_sheet.ensures c.in_ok-count.was in
    record { fits = omega (arith, h) }

pub slice_bounds-prove-end : goal.slice_bounds-prove-end
slice_bounds-prove-end c = read_fits _ c.args.rows.now _ _ c.read_sheet.ensures c.in_ok-count.was

pub slice_bounds-prove-end-2 : goal.slice_bounds-prove-end-2
slice_bounds-prove-end-2 c = sym (length-take-le _ _ (read_fits _ c.args.rows.now _ _ c.read_sheet.ensures c.in_ok-count.was))
