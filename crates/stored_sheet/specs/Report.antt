-- The number and the values of each answer: 0 with the count for done, and a refusal's own.
-- Assumes nothing.
use Rattle.std.specs.Prelude.{Result, Ok, Err, ℕ}
use Rattle.refusal.specs.declared.Refusal.{Refusal}
use Rattle.refusal.specs.declared.Report.{Report}
use Rattle.refusal.specs.Numbers.{none, elements, report_of}

-- the reader's count is of rows, the writer's of bytes
abbrev pub sheet_report : Result ℕ Refusal → Report
sheet_report (Ok count) = elements 0 count none none
sheet_report (Err refusal) = report_of refusal
