-- What stands beside demand 3: another sum, a row over zero, the premise of a live verifier, and no rows.
-- Assumes nothing.
use Rattle.std.specs.Prelude.{◌≡◌, true, false, List, [], ℕ, ◌≤◌, length, take, Ok, Err}
use Rattle.field.specs.Ext as E
use Rattle.field.specs.Element.{enc}
use Rattle.gkr.specs.Sizes.{proof_bytes}
use Rattle.transcript.specs.Used.{unused}
use Rattle.refusal.specs.declared.Verifying.{Verifying}
use Rattle.refusal.specs.declared.Refusal.TheVariants.{ZeroCheckFailed, ZeroRoot}
use Rattle.step.specs.declared.Frac.{Frac}
use Rattle.prover_gate.specs.Refusals.{Call}
use Rattle.prover.specs.Proved.{Buffers, enc_frac, proved, summed}
use Rattle.prover.specs.Proved as Prover
use Rattle.prover.specs.Companions.{Sound}
use Rattle.verifier.specs.Verified as Verifier
use Rattle.verifier.specs.Verified.{Lent, asked, outcome, verified}
use Rattle.agreement.specs.Demand3.{Taken, root, Room, verdict}

-- ANOTHER SUM, not asserted: the prover is done, and the verifier answers 16 with that sum
abbrev pub OtherSum : Type 0
OtherSum =
    (c : Call) (how : Verifying) (n : ℕ) (b : Buffers) (v : Lent) → Taken c n → how.drawn ≡ c.modes.drawn
    → c.modes.assert_zero ≡ false → ((root c n).p ≡ E.nil → ⊥) → Room false c.modes.sized n b v → (how.live ≡ true → Sound c.rows)
    → ((proved c b).answer ≡ summed n (enc_frac (root c n))) × ((verdict c how n (proved c b) v).answer ≡ Err (ZeroCheckFailed (enc (root c n).p)))

-- A ROW OVER ZERO: the sandbox proves such a sheet, and a live verifier refuses its proof by 27
abbrev pub RowOverZero : Type 0
RowOverZero =
    (c : Call) (how : Verifying) (n : ℕ) (b : Buffers) (v : Lent) → Taken c n → how.live ≡ true → how.drawn ≡ c.modes.drawn
    → c.modes.assert_zero ≡ true → (root c n).p ≡ E.nil → Room true c.modes.sized n b v → ¬ (Sound c.rows)
    → (verdict c how n (proved c b) v).answer ≡ Err ZeroRoot

-- PROVED LIVE: what a live verifier asks of the rows follows from done
abbrev pub ProvedLive : Type 0
ProvedLive = (c : Call) (b : Buffers) (n : ℕ) (s : Frac) → c.modes.live ≡ true → (proved c b).answer ≡ summed n s → Sound c.rows

-- NO ROWS: the prover is done with 0 rounds and the sum 0/1, and its point and log are as before; the verifier accepts with claims 0 and 1, and both its buffers are as before
pub record AgreedOnNone (b : Buffers) (v : Lent) (P : Prover.Outcome) (Q : Verifier.Outcome) : Type 0 where
  pub done : P.answer ≡ summed 0 (enc_frac (record { p = E.nil; q = E.one }))
  pub point : P.buffers.point ≡ b.point
  pub log : P.buffers.log ≡ b.log
  pub accepted : Q ≡ outcome (Ok (record { numer = enc E.nil; denom = enc E.one })) unused v.point v.log

-- in every mode of proving, with room for the proof's 23 bytes, and in every mode of verifying where 0 rounds are valid; both may be lent any challenges, and the verifier any room
abbrev pub NoRows : Type 0
NoRows =
    (c : Call) (how : Verifying) (challenges : List ℕ) (b : Buffers) (v : Lent) → c.rows ≡ [] → proof_bytes 0 ≤ length b.proof → how.empty ≡ true
    → let P = proved c b in AgreedOnNone b v P (verified (asked (take (proof_bytes 0) P.buffers.proof) 0 how challenges) v)
