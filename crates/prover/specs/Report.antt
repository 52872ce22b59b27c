-- The number and the values of each answer: 0 with n and the sum for done, and a refusal's own.
-- Assumes nothing.
use Rattle.std.specs.Prelude.{Result, Ok, Err}
use Rattle.refusal.specs.declared.Refusal.{Refusal}
use Rattle.refusal.specs.declared.Report.{Report}
use Rattle.refusal.specs.Numbers.{elements, report_of}
use Rattle.prover.specs.declared.Done.{Done}

abbrev pub answer_report : Result Done Refusal → Report
answer_report (Ok d) = elements 0 d.rounds d.sum.p d.sum.q
answer_report (Err r) = report_of r
