use Rattle.command_files.proofs.Parts.{read_rows}
use Rattle.stored_sheet.proofs.SheetLaws.{read_most}
use native.Mathlib.Omega.{arith}
use Rattle.command_files.proofs.inputs.rows_of.Goals as goal

pub overflow_mul-result : goal.overflow_mul-result
overflow_mul-result c = let h = read_most _ c.args.rows.now _ _ c.read_sheet.ensures c.in_ok-count.was in
    record { fits = omega arith }

pub returns-clause-rows : goal.returns-clause-rows
returns-clause-rows c = read_rows _ c.args.rows.now _ _ c.read_sheet.ensures c.in_ok-count.was
