-- The number and the values of each answer: 0 with the element or the three values for done, and a refusal's own, with zeros.
-- Assumes nothing.
use Rattle.std.specs.Prelude.{Result, Ok, Err}
use Rattle.field.specs.declared.Ext.{Ext}
use Rattle.step.specs.declared.Three.{Three}
use Rattle.refusal.specs.declared.Refusal.{Refusal}
use Rattle.refusal.specs.declared.Report.{Report}
use Rattle.refusal.specs.Numbers.{none, elements, report_of}
use Rattle.poly.specs.declared.RoundReport.{RoundReport}

abbrev pub outcome_report : Result (Unit {0}) Refusal → Report
outcome_report (Ok _) = elements 0 0 none none
outcome_report (Err refusal) = report_of refusal

abbrev pub evaluated_report : Result Ext Refusal → Report
evaluated_report (Ok e) = elements 0 0 e none
evaluated_report (Err refusal) = report_of refusal

-- the values at 1, 2, 3 where there are none
abbrev pub no_values : Three
no_values = record { s1 = none; s2 = none; s3 = none }

abbrev pub round_report : Result Three Refusal → RoundReport
round_report (Ok s) = record { report = elements 0 0 none none; values = s }
round_report (Err refusal) = record { report = report_of refusal; values = no_values }
