-- No second outcome of prover and verifier one after the other fits: the answer and all six buffers can be read off what both leave.
-- Assumes nothing.
use Rattle.std.specs.Prelude.{◌≡◌, refl, Result, Ok, Err}
use Rattle.std.proofs.Common.{sym, ◌∙◌, ap}
use Rattle.refusal.specs.declared.Refusal.{Refusal}
use Rattle.refusal.specs.declared.Refusal.TheVariants.{ShortRoom}
use Rattle.refusal.specs.declared.Verifying.{Verifying}
use Rattle.prover_gate.specs.Refusals.{Call}
use Rattle.prover.specs.Proved as Prover
use Rattle.prover.specs.declared.Done.{Done}
use Rattle.transcript.specs.declared.Used.{Used}
use Rattle.verifier.specs.declared.Ending.{Ending}
use Rattle.agreement.specs.declared.Joint.{Joint}
use Rattle.verifier.specs.Verified.{Lent}
use Rattle.agreement.specs.Together.{Joined, stopped, through, together, joined}

-- an answer, and the buffers of both after it
pub record Outcome : Type 0 where
  pub answer : Result Joint Refusal
  pub buffers : Prover.Buffers
  pub again : Lent

-- the answer, read off: where the prover stops it is not done, so the first line is for no call
abbrev stopped_by : Result Done Refusal → Result Joint Refusal
stopped_by (Ok d) = Err ShortRoom
stopped_by (Err e) = Err e

abbrev ended_by : Result Done Refusal → Used → Ending → Result Joint Refusal
ended_by (Ok d) u w = Ok (record { done = d; used = u; verified = w })
ended_by (Err e) u w = Err e

abbrev read_joined : Joined → Outcome
read_joined (stopped P v) = record { answer = stopped_by P.answer; buffers = P.buffers; again = v }
read_joined (through P Q) = record { answer = ended_by P.answer P.used (record { verdict = Q.answer; used = Q.used }); buffers = P.buffers; again = Q.buffers }

read_off : (a : Result Joint Refusal) (b : Prover.Buffers) (v : Lent) → read_joined (joined a b v) ≡ record { answer = a; buffers = b; again = v }
read_off (Ok j) b v = refl
read_off (Err e) b v = refl

pub only_one : (c : Call) (how : Verifying) (b : Prover.Buffers) (v : Lent) (o o' : Outcome)
    → joined o.answer o.buffers o.again ≡ together c how b v → joined o'.answer o'.buffers o'.again ≡ together c how b v → o ≡ o'
only_one c how b v o o' h h' = sym (read_off o.answer o.buffers o.again) ∙ ap read_joined (h ∙ sym h') ∙ read_off o'.answer o'.buffers o'.again
