-- The number and the values of both answers: the prover's, and the verifier's where the prover is done.
-- Assumes nothing.
use Rattle.std.specs.Prelude.{Result, Ok, Err}
use Rattle.refusal.specs.declared.Refusal.{Refusal}
use Rattle.refusal.specs.Numbers.{none, elements}
use Rattle.prover.specs.Report.{answer_report}
use Rattle.verifier_round.specs.Report.{verdict_report}
use Rattle.agreement.specs.declared.Joint.{Joint}
use Rattle.agreement.specs.declared.JointReport.{JointReport}

-- where the prover refuses, nothing is verified: the second is all zero, as what an answer does not name
abbrev pub joint_report : Result Joint Refusal → JointReport
joint_report (Ok j) = record { proving = answer_report (Ok j.done); verifying = verdict_report j.verified.verdict }
joint_report (Err e) = record { proving = answer_report (Err e); verifying = elements 0 0 none none }
