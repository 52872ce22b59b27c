-- A caller who asks the room questions and lends at least what they answer: such a caller is never refused as 4 or 5, and demand 3 asks nothing else of lengths.
-- Assumes nothing.
use Rattle.std.specs.Prelude.{◌≡◌, Bool, false, cond, List, ℕ, ◌+◌, ◌≤◌, length}
use Rattle.sizes.specs.Sizes.{row_count}
use Rattle.stored.specs.Parse as Parse
use Rattle.refusal.specs.declared.Verifying.{Verifying}
use Rattle.prover_gate.specs.Refusals.{Call}
use Rattle.prover.specs.Proved.{Buffers}
use Rattle.verifier.specs.Verified.{Lent}
use Rattle.accudrina.specs.Modes.{ASSERT_ZERO, DRAWN, SIZED, has}
use Rattle.accudrina.specs.Calls.{proving, verifying}
use Rattle.accudrina.specs.Rooms.{bytes_of_proof, words_of_point, words_of_log, words_of_workspace, challenge_words, rounds}
use Rattle.exported.specs.Exported.{Sheet, Exchanged, word_of, word_again, proves, handed}

-- the answer to accudrina_rounds for these row words
abbrev pub asked : List ℕ → ℕ
asked rows = rounds (row_count rows)

-- lent to the prover, for n rounds in these modes: four buffers and, where they are not drawn, the challenges
pub record ForProver (n modes : ℕ) (ch : List ℕ) (b : Buffers) : Type 0 where
  pub proof : bytes_of_proof n ≤ length b.proof
  pub point : words_of_point n ≤ length b.point
  pub log : words_of_log n modes ≤ length b.log
  pub work : words_of_workspace n ≤ length b.work
  pub challenges : has DRAWN modes ≡ false → challenge_words n ≤ length ch

-- lent to the verifier, likewise, for a proof that binds its size or does not: two buffers and the challenges
pub record ForVerifier (sized : Bool) (n modes : ℕ) (ch : List ℕ) (v : Lent) : Type 0 where
  pub point : words_of_point n ≤ length v.point
  pub log : words_of_log n (ASSERT_ZERO + cond sized SIZED 0) ≤ length v.log
  pub challenges : has DRAWN modes ≡ false → challenge_words n ≤ length ch

-- the number returned is neither ShortChallenges nor ShortRoom
pub record NotShort (number : ℕ) : Type 0 where
  pub challenges : number ≡ 4 → ⊥
  pub room : number ≡ 5 → ⊥

-- for all rows, proofs, rounds, modes and words, those that are refused for something else too
abbrev pub ProverNotShort : Type 0
ProverNotShort = (rows : List ℕ) (modes : ℕ) (ch : List ℕ) (b : Buffers) → ForProver (asked rows) modes ch b → NotShort (proving rows modes ch b).told.number

abbrev pub VerifierNotShort : Type 0
VerifierNotShort = (proof : List ℕ) (n modes : ℕ) (ch : List ℕ) (v : Lent) → ForVerifier (Parse.sized proof) n modes ch v → NotShort (verifying proof n modes ch v).told.number

-- DEMAND 3 FOR SUCH A CALLER: of the lengths of the buffers nothing else is said
abbrev pub Demand3Asked : Type 0
Demand3Asked =
    (c : Call) (how : Verifying) (n : ℕ) (b : Buffers) (v : Lent) → Sheet c how n → ForProver (asked c.rows) (word_of c) c.challenges b
    → ForVerifier c.modes.sized (asked c.rows) (word_again how) c.challenges v → let P = proves c b in Exchanged c n b v P (handed c how n P v)
