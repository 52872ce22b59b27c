-- The number and the values of each verdict: 0 with both claims, and a refusal's own.
-- Assumes nothing.
use Rattle.std.specs.Prelude.{Result, Ok, Err}
use Rattle.refusal.specs.declared.Report.{Report}
use Rattle.refusal.specs.Numbers.{elements, report_of}
use Rattle.refusal.specs.declared.Refusal.{Refusal}
use Rattle.verifier_round.specs.declared.Claims.{Claims}

abbrev pub verdict_report : Result Claims Refusal → Report
verdict_report (Ok claims) = elements 0 0 claims.numer claims.denom
verdict_report (Err refusal) = report_of refusal
