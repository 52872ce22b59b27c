-- Demand 3 and the evaluation of a sheet: over the same premises the verifier claims exactly what the evaluation answers, at the point that both sides wrote.
-- Assumes nothing.
use Rattle.std.specs.Prelude.{◌≡◌, true, List, ℕ, take, Result, Ok}
use Rattle.refusal.specs.declared.Refusal.{Refusal}
use Rattle.field.specs.Ext as E
use Rattle.field.specs.declared.Ext.{Ext}
use Rattle.gkr.specs.Sizes.{point_words}
use Rattle.refusal.specs.declared.Verifying.{Verifying}
use Rattle.prover_gate.specs.Refusals.{Call}
use Rattle.prover.specs.Proved as Prover
use Rattle.prover.specs.Companions.{Sound}
use Rattle.verifier.specs.Verified as Verifier
use Rattle.verifier.specs.Verified.{Lent}
use Rattle.agreement.specs.Demand3.{Taken, root, Room, verdict}
use Rattle.evaluation.specs.declared.Values.{Values}
use Rattle.evaluation.specs.Evaluated.{evaluated}

-- the rows' evaluation at the front of a point buffer
abbrev pub at_front : (rows : List ℕ) (n : ℕ) (point : List ℕ) → Result Values Refusal
at_front rows n point = evaluated rows (take (point_words n) point)

-- a prover's outcome P and a verifier's outcome Q over the rows
pub record Compared (rows : List ℕ) (n : ℕ) (P : Prover.Outcome) (Q : Verifier.Outcome) : Type 0 where
  pub numer : Ext
  pub denom : Ext
  pub claimed : Q.answer ≡ Ok (record { numer = numer; denom = denom })
  pub at_verified : at_front rows n Q.buffers.point ≡ Ok (record { rounds = n; numer = numer; denom = denom })
  pub at_proved : at_front rows n P.buffers.point ≡ Ok (record { rounds = n; numer = numer; denom = denom })

abbrev pub Comparison : Type 0
Comparison =
    (c : Call) (how : Verifying) (n : ℕ) (b : Prover.Buffers) (v : Lent) → Taken c n → how.drawn ≡ c.modes.drawn
    → c.modes.assert_zero ≡ true → (root c n).p ≡ E.nil → Room true c.modes.sized n b v → (how.live ≡ true → Sound c.rows)
    → let P = Prover.proved c b in Compared c.rows n P (verdict c how n P v)
