use Rattle.std.proofs.Common.{arith}
use Rattle.std.proofs.Math.ListN.{get_or-eq_default}
use Rattle.std.proofs.lemmas.Result.{err_from_is_err_and}
use Rattle.stored_sheet.proofs.SheetSteps.{count_read, no_version, wrong_length, read_refused, read_bad, read_all}
use Rattle.stored_sheet.proofs.check_sheet.Goals as goal

pub returns-in-1-2 : goal.returns-in-1-2
returns-in-1-2 c = wrong_length _ _ (omega arith) (λ e. omega arith)

pub returns-in_default : goal.returns-in_default
returns-in_default c = no_version _ _ (λ e. omega (arith, e, get_or-eq_default c.args.bytes.now 0 {n = 0} (omega arith)))

pub returns-in_default-2 : goal.returns-in_default-2
returns-in_default-2 c = no_version _ _ (λ e. omega (arith, e))

pub returns-in_default-3 : goal.returns-in_default-3
returns-in_default-3 c = no_version _ _ (λ e. omega (arith, e))

pub returns-then-bytes-count : goal.returns-then-bytes-count
returns-then-bytes-count c = wrong_length c.args.bytes.now _ (omega arith) (λ e. omega (arith, e, count_read c.args.bytes.now))

pub returns-in_err-check_size : goal.returns-in_err-check_size
returns-in_err-check_size c =
    let p = err_from_is_err_and c.from_residual.result c.from_residual.ensures.1 in
    rw (p.1, p.2) (read_refused c.args.bytes.now c.args.room (omega arith) c.from-count.result (omega (arith, count_read c.args.bytes.now)) (omega arith) _ c.in_err-check_size.ensures)

pub returns-in-Some : goal.returns-in-Some
returns-in-Some c = read_bad c.args.bytes.now c.args.room (omega arith) c.from-count.result (omega (arith, count_read c.args.bytes.now)) (omega arith) _ c.in_ok-check_size.ensures c.in-Some.ensures

pub returns : goal.returns
returns c = read_all c.args.bytes.now c.args.room (omega arith) c.from-count.result (omega (arith, count_read c.args.bytes.now)) (omega arith) c.in_ok-check_size.ensures c.in_default-first_bad_stored.ensures
