-- The number and the values of each answer: 0 with n and both values for done, and a refusal's own.
-- Assumes nothing.
use Rattle.std.specs.Prelude.{Result, Ok, Err}
use Rattle.refusal.specs.declared.Refusal.{Refusal}
use Rattle.refusal.specs.declared.Report.{Report}
use Rattle.refusal.specs.Numbers.{elements, report_of}
use Rattle.evaluation.specs.declared.Values.{Values}

abbrev pub evaluation_report : Result Values Refusal → Report
evaluation_report (Ok v) = elements 0 v.rounds v.numer v.denom
evaluation_report (Err r) = report_of r
