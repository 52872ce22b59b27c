-- No second answer fits what the public functions promise, for any input.
-- Assumes nothing.
use Rattle.std.specs.Prelude.{◌≡◌, List, ℕ}
use Rattle.std.proofs.Common.{sym, ◌∙◌}
use Rattle.stored_sheet.specs.SheetReads.{SheetEnd, sheet_read, sheet_written}

-- the answer and the buffer together
pub one_read : (bs old : List ℕ) (r r' : SheetEnd) → r ≡ sheet_read bs old → r' ≡ sheet_read bs old → r ≡ r'
one_read bs old r r' e e' = e ∙ sym e'

pub one_written : (ws old : List ℕ) (r r' : SheetEnd) → r ≡ sheet_written ws old → r' ≡ sheet_written ws old → r ≡ r'
one_written ws old r r' e e' = e ∙ sym e'
