-- Demand 3: what has to hold of a sheet, its challenges and the buffers, and how prover and verifier then agree, in every mode of both and for both versions of a proof.
-- Assumes nothing.
use Rattle.std.specs.Prelude.{◌≡◌, Bool, true, false, List, ℕ, ◌*◌, ◌^◌, ◌≤◌, length, take, Ok}
use Rattle.field.specs.Ext as E
use Rattle.field.specs.ExtRing.{ExtRing}
use Rattle.field.specs.Element.{enc, words_of_point}
use Rattle.gkr.specs.Run.{Frac}
use Rattle.gkr.specs.Sizes.{proof_bytes, point_words}
use Rattle.gkr.specs.Tree as Tree
use Rattle.refusal.specs.declared.Verifying.{Verifying}
use Rattle.refusal.specs.Limits.{max_rounds}
use Rattle.refusal.specs.Fronts.{over}
use Rattle.sizes.specs.Sizes.{needed_words, log_room}
use Rattle.wire.specs.Words.{all_canonical}
use Rattle.prover_tree.specs.Nodes.{node}
use Rattle.prover_gate.specs.Refusals.{Call, short_room}
use Rattle.prover.specs.Proved as Prover
use Rattle.prover.specs.Companions.{Sound}
use Rattle.verifier.specs.Verified as Verifier
use Rattle.verifier.specs.Verified.{Lent}

-- a sheet that both take: 2 ^ n rows and, where they are not drawn, enough challenges, all valid words, n from 1 to the limit, and in live mode the row check passed
pub record Taken (c : Call) (n : ℕ) : Type 0 where
  pub some : 1 ≤ n
  pub few : n ≤ max_rounds
  pub rows : length c.rows ≡ 8 * 2 ^ n
  pub enough : needed_words c.modes.drawn n ≤ length c.challenges
  pub valid_rows : all_canonical c.rows ≡ true
  pub valid_challenges : all_canonical (take (needed_words c.modes.drawn n) c.challenges) ≡ true
  pub checked : c.modes.live ≡ true → Sound c.rows

-- the sum of all rows
abbrev pub root : (c : Call) (n : ℕ) → Frac E.Ext
root c n = Tree.tree ExtRing (node c.rows) n 0

-- every buffer is long enough: none of the prover's four is short, nor of the verifier's two
pub record Room (asserted sized : Bool) (n : ℕ) (b : Prover.Buffers) (v : Lent) : Type 0 where
  pub prover : short_room asserted sized n (Prover.rooms_of b) ≡ false
  pub point_again : point_words n ≤ length v.point
  pub log_again : log_room true sized n ≤ length v.log

-- what the verifier makes of that proof's bytes, n and the same challenges
abbrev pub verdict : (c : Call) (how : Verifying) (n : ℕ) (P : Prover.Outcome) (v : Lent) → Verifier.Outcome
verdict c how n P v = Verifier.verified (Verifier.asked (take (proof_bytes n) P.buffers.proof) n how c.challenges) v

-- THE AGREEMENT of a prover's outcome P over the buffers b and a verifier's outcome Q over the buffers v
pub record Agreed (c : Call) (n : ℕ) (b : Prover.Buffers) (v : Lent) (P : Prover.Outcome) (Q : Verifier.Outcome) : Type 0 where
  pub point : List E.Ext
  pub logged : List ℕ
  -- the prover is done, with n and the sum of all rows
  pub done : P.answer ≡ Prover.summed n (Prover.enc_frac (root c n))
  -- the verifier accepts; its claims are the values of both columns at the point, the plain sums over all rows
  pub accepted : Q.answer ≡ (let claims = Tree.value ExtRing (node c.rows) point in Ok (record { numer = enc claims.p; denom = enc claims.q }))
  -- the point is one, and so is the log
  pub coordinates : length point ≡ n
  pub proved_point : P.buffers.point ≡ over (words_of_point point) b.point
  pub verified_point : Q.buffers.point ≡ over (words_of_point point) v.point
  pub size : length logged ≡ log_room true c.modes.sized n
  pub proved_log : P.buffers.log ≡ over logged b.log
  pub verified_log : Q.buffers.log ≡ over logged v.log

-- THE DEMAND: both draw or neither does, zero asserted, the root numerator zero, and where the verifier is live no row over zero
abbrev pub Demand3 : Type 0
Demand3 =
    (c : Call) (how : Verifying) (n : ℕ) (b : Prover.Buffers) (v : Lent) → Taken c n → how.drawn ≡ c.modes.drawn
    → c.modes.assert_zero ≡ true → (root c n).p ≡ E.nil → Room true c.modes.sized n b v → (how.live ≡ true → Sound c.rows)
    → let P = Prover.proved c b in Agreed c n b v P (verdict c how n P v)
