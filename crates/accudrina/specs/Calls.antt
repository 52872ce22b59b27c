-- What each exported call returns, writes as its answer and leaves in the buffers: the inner call's outcome, told in words.
-- Assumes nothing.
use Rattle.std.specs.Prelude.{cond, List, [], ◌∷◌, ℕ, eqb}
use Rattle.transcript.specs.Used.{unused}
use Rattle.stored_sheet.specs.SheetReads.{sheet_read}
use Rattle.stored_sheet.specs.Report.{sheet_report}
use Rattle.prover_gate.specs.Refusals.{Call, call}
use Rattle.evaluation.specs.Evaluated.{evaluated}
use Rattle.evaluation.specs.Report.{evaluation_report}
use Rattle.prover.specs.Proved.{Buffers, proved}
use Rattle.prover.specs.Report.{answer_report}
use Rattle.verifier_round.specs.Report.{verdict_report}
use Rattle.verifier.specs.Verified.{Asked, Lent, asked, verified}
use Rattle.log_replay.specs.Replayed.{Kept, kept, replayed}
use Rattle.accudrina.specs.Answer.{Told, tells}
use Rattle.accudrina.specs.Modes.{proving_bits, verifying_bits, untaken, proving_of, verifying_of, unknown_mode}

pub record Returned (B : Type 0) : Type 0 where
  pub told : Told
  pub buffers : B

-- of the sheet's bytes, and the buffer for rows
abbrev pub reading : List ℕ → List ℕ → Returned (List ℕ)
reading sheet rows = record { told = tells (sheet_report (sheet_read sheet rows).answer) unused; buffers = (sheet_read sheet rows).buffer }

-- bits that are not taken are refused first of all, and no buffer is written
abbrev pub taking : {B : Type 0} (bits : ℕ) (lent : B) (run : Returned B) → Returned B
taking bits lent run = cond (eqb bits 0) run (record { told = tells (unknown_mode bits) unused; buffers = lent })

-- of a call of the prover, and the buffers for proof, point, log and work
abbrev pub proving_taken : Call → Buffers → Returned Buffers
proving_taken c b = record { told = tells (answer_report (proved c b).answer) (proved c b).used; buffers = (proved c b).buffers }

-- of rows, a word of modes and challenges
abbrev pub proving : (rows : List ℕ) (modes : ℕ) (challenges : List ℕ) → Buffers → Returned Buffers
proving rows modes challenges b =
    taking (untaken proving_bits modes) b (proving_taken (call rows (proving_of modes) challenges) b)

-- of a call of the verifier, and the buffers for point and log
abbrev pub verifying_taken : Asked → Lent → Returned Lent
verifying_taken a v = record { told = tells (verdict_report (verified a v).answer) (verified a v).used; buffers = (verified a v).buffers }

-- of a proof's bytes, rounds, a word of modes and challenges
abbrev pub verifying : (proof : List ℕ) (rounds modes : ℕ) (challenges : List ℕ) → Lent → Returned Lent
verifying proof rounds modes challenges v = taking (untaken verifying_bits modes) v (verifying_taken (asked proof rounds (verifying_of modes) challenges) v)

-- of a call of a replay, and the buffer for the point
abbrev pub replaying_taken : Kept → (point : List ℕ) → Returned (List ℕ)
replaying_taken k point = record { told = tells (verdict_report (replayed k point).answer) (replayed k point).used; buffers = (replayed k point).point }

-- of a proof's bytes, rounds, a word of modes and a log, with the verifier's bits
abbrev pub replaying : (proof : List ℕ) (rounds modes : ℕ) (log point : List ℕ) → Returned (List ℕ)
replaying proof rounds modes log point = taking (untaken verifying_bits modes) point (replaying_taken (kept proof rounds (verifying_of modes) log) point)

-- of rows and a point; no buffer is lent
abbrev pub evaluating : (rows point : List ℕ) → Told
evaluating rows point = tells (evaluation_report (evaluated rows point)) unused
