-- Prover and verifier one after the other: what both leave, and when they agree.
-- Assumes nothing.
use Rattle.std.specs.Prelude.{ℕ, Result, Ok, Err}
use Rattle.refusal.specs.declared.Refusal.{Refusal}
use Rattle.refusal.specs.declared.Verifying.{Verifying}
use Rattle.transcript.specs.Used.{unused}
use Rattle.prover_gate.specs.Refusals.{Call}
use Rattle.prover.specs.Proved as Prover
use Rattle.prover.specs.declared.Done.{Done}
use Rattle.verifier.specs.Verified as Verifier
use Rattle.verifier.specs.Verified.{Lent}
use Rattle.agreement.specs.declared.Joint.{Joint}
use Rattle.agreement.specs.Demand3.{verdict, Agreed}

-- a prover that refuses leaves the verifier's buffers as they were
pub data Joined : Type 0 where
  stopped : Prover.Outcome → Lent → Joined
  through : Prover.Outcome → Verifier.Outcome → Joined

-- where the prover is done, the verifier gets the proof's bytes, n and the same challenges
abbrev pub follow : (c : Call) (how : Verifying) (v : Lent) (P : Prover.Outcome) → Result Done Refusal → Joined
follow c how v P (Ok d) = through P (verdict c how d.rounds P v)
follow c how v P (Err e) = stopped P v

unfoldable pub together : (c : Call) (how : Verifying) (b : Prover.Buffers) (v : Lent) → Joined
together c how b v = follow c how v (Prover.proved c b) (Prover.proved c b).answer

-- an answer and the buffers after it; a prover that refuses has used up nothing
abbrev pub joined : Result Joint Refusal → Prover.Buffers → Lent → Joined
joined (Ok j) b v = through (record { answer = Ok j.done; used = j.used; buffers = b }) (record { answer = j.verified.verdict; used = j.verified.used; buffers = v })
joined (Err e) b v = stopped (record { answer = Err e; used = unused; buffers = b }) v

abbrev pub Agrees : (c : Call) (n : ℕ) (b : Prover.Buffers) (v : Lent) → Joined → Type 0
Agrees c n b v (through P Q) = Agreed c n b v P Q
Agrees c n b v (stopped P w) = ⊥
