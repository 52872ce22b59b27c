-- Demand 3 over the exported calls: the numbers that they return, the answer's words that they write, and what the buffers hold.
-- Assumes nothing.
use Rattle.std.specs.Prelude.{◌≡◌, Bool, true, cond, List, [], ◌∷◌, ◌++◌, ℕ, ◌+◌, length, take}
use Rattle.field.specs.Ext as E
use Rattle.field.specs.ExtRing.{ExtRing}
use Rattle.field.specs.Element.{words, words_of_point}
use Rattle.gkr.specs.Run.{Frac}
use Rattle.gkr.specs.Sizes.{proof_bytes, challenges}
use Rattle.sizes.specs.Sizes.{log_room}
use Rattle.gkr.specs.Tree as Tree
use Rattle.transcript.specs.declared.Used.{Used}
use Rattle.transcript.specs.Used.{used}
use Rattle.prover_tree.specs.Nodes.{node}
use Rattle.prover_gate.specs.Refusals.{Call}
use Rattle.refusal.specs.declared.Proving.{Proving}
use Rattle.refusal.specs.declared.Verifying.{Verifying}
use Rattle.refusal.specs.Fronts.{over}
use Rattle.prover.specs.Proved.{Buffers}
use Rattle.prover.specs.Companions.{Sound}
use Rattle.verifier.specs.Verified.{Lent}
use Rattle.agreement.specs.Demand3.{Taken, root, Room}
use Rattle.accudrina.specs.Answer.{Told}
use Rattle.accudrina.specs.Modes.{LIVE, ASSERT_ZERO, DRAWN, SIZED, EMPTY}
use Rattle.accudrina.specs.Calls.{Returned, proving, verifying}

-- done: the number 0 is returned, and the sixteen words are 0, a plain field, two zeros, two elements, what was used up, two zeros
abbrev pub done : (field : ℕ) → Frac E.Ext → Used → Told
done field f u = record { number = 0; words = 0 ∷ field ∷ 0 ∷ 0 ∷ (words f.p ++ (words f.q ++ (u.challenges ∷ u.words ∷ 0 ∷ 0 ∷ []))) }

-- the challenges and log words of a whole run, zero asserted
abbrev pub whole : (sized : Bool) (n : ℕ) → Used
whole sized n = used (challenges n) (log_room true sized n)

-- the word of modes of proving, and of verifying
abbrev pub word : Proving → ℕ
word m = cond m.live LIVE 0 + cond m.assert_zero ASSERT_ZERO 0 + cond m.drawn DRAWN 0 + cond m.sized SIZED 0

abbrev pub word_again : Verifying → ℕ
word_again m = cond m.live LIVE 0 + cond m.drawn DRAWN 0 + cond m.empty EMPTY 0

abbrev pub word_of : Call → ℕ
word_of c = word c.modes

-- the prover's call, with the word of its modes
abbrev pub proves : (c : Call) (b : Buffers) → Returned Buffers
proves c b = proving c.rows (word_of c) c.challenges b

-- the verifier's call: the first bytes of the buffer with the proof, n, the word of its modes and the same challenges
abbrev pub handed : (c : Call) (how : Verifying) (n : ℕ) (P : Returned Buffers) (v : Lent) → Returned Lent
handed c how n P v = verifying (take (proof_bytes n) P.buffers.proof) n (word_again how) c.challenges v

-- DEMAND 3'S PREMISES: a sheet that is taken, both draw or neither does, zero asserted, the root numerator zero, no row over zero where the verifier is live; and every buffer long enough
pub record Sheet (c : Call) (how : Verifying) (n : ℕ) : Type 0 where
  pub taken : Taken c n
  pub alike : how.drawn ≡ c.modes.drawn
  pub asserted : c.modes.assert_zero ≡ true
  pub zero_sum : (root c n).p ≡ E.nil
  pub sound : how.live ≡ true → Sound c.rows

pub record Premises (c : Call) (how : Verifying) (n : ℕ) (b : Buffers) (v : Lent) : Type 0 where
  pub sheet : Sheet c how n
  pub room : Room true c.modes.sized n b v

-- THE AGREEMENT of what the prover's call returns over the buffers b and the verifier's over the buffers v
pub record Exchanged (c : Call) (n : ℕ) (b : Buffers) (v : Lent) (P : Returned Buffers) (Q : Returned Lent) : Type 0 where
  pub point : List E.Ext
  pub logged : List ℕ
  -- the prover's call tells n and the sum of all rows, and a whole run used up
  pub proved : P.told ≡ done n (root c n) (whole c.modes.sized n)
  -- the verifier's tells the values of both columns at the point, the plain sums over all rows, and as much used up
  pub accepted : Q.told ≡ done 0 (Tree.value ExtRing (node c.rows) point) (whole c.modes.sized n)
  -- the point is one, and so is the log, at the fronts of the buffers; the rest is as before
  pub coordinates : length point ≡ n
  pub proved_point : P.buffers.point ≡ over (words_of_point point) b.point
  pub verified_point : Q.buffers.point ≡ over (words_of_point point) v.point
  pub size : length logged ≡ log_room true c.modes.sized n
  pub proved_log : P.buffers.log ≡ over logged b.log
  pub verified_log : Q.buffers.log ≡ over logged v.log

-- THE DEMAND
abbrev pub Demand3Exported : Type 0
Demand3Exported = (c : Call) (how : Verifying) (n : ℕ) (b : Buffers) (v : Lent) → Premises c how n b v → let P = proves c b in Exchanged c n b v P (handed c how n P v)
