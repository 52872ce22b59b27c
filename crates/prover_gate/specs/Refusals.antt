-- The prover's refusals 1 to 7 as tests in their order: the first that is met answers, by the row words, the modes, the challenge words and the lengths of the rooms.
-- Assumes nothing.
use Rattle.std.specs.Prelude.{Bool, cond, not, ◌&&◌, ◌||◌, List, [], ◌∷◌, ℕ, zero, suc, ◌%◌, eqb, ltb, length, take, Option, Some, None, Result, Ok, Err}
use Rattle.field.specs.Ext as E
use Rattle.gkr.specs.Run.{Frac}
use Rattle.gkr.specs.Sizes.{proof_bytes, point_words}
use Rattle.refusal.specs.Limits.{max_rows}
use Rattle.refusal.specs.declared.Proving.{Proving}
use Rattle.refusal.specs.declared.Refusal.{Refusal}
use Rattle.refusal.specs.declared.Refusal.TheVariants.{RaggedRows, TooManyRows, NotPowerOfTwo, ShortChallenges, ShortRoom, BadWord, ZeroDenominator}
use Rattle.refusal.specs.declared.Words.TheVariants.{Rows, Challenges}
use Rattle.refusal.specs.Tests.{Test, Tested, passed, refused, test, first_of}
use Rattle.sizes.specs.Sizes.{row_count, rounds_of, is_size, needed_words, log_room, work_room}
use Rattle.wire.specs.Words.{all_canonical, first_bad}
use Rattle.prover_tree.specs.Nodes.{node}
use Rattle.prover_gate.specs.declared.Rooms.{Rooms}

-- what a call is given: row words, eight a row; the modes of proving; challenge words, four a challenge
pub record Call : Type 0 where
  pub rows : List ℕ
  pub modes : Proving
  pub challenges : List ℕ

abbrev pub call : (rows : List ℕ) (modes : Proving) (challenges : List ℕ) → Call
call rows modes challenges = record { rows = rows; modes = modes; challenges = challenges }

abbrev pub rooms : (proof point log work : ℕ) → Rooms
rooms proof point log work = record { proof = proof; point = point; log = log; work = work }

unfoldable pub short_room : (asserted sized : Bool) (n : ℕ) (r : Rooms) → Bool
short_room asserted sized n r = ltb r.proof (proof_bytes n) || (ltb r.point (point_words n) || (ltb r.log (log_room asserted sized n) || ltb r.work (work_room n)))

-- q is 0, whatever p is
unfoldable pub degenerate : Frac E.Ext → Bool
degenerate f = E.same f.q E.nil

-- the lowest such row of the `left` rows from row i on; i + left where there is none
unfoldable pub lowest : (rows : List ℕ) (left i : ℕ) → ℕ
lowest rows zero i = i
lowest rows (suc left) i = cond (degenerate (node rows i)) i (lowest rows left (suc i))

-- none where there is none of them
abbrev pub lowest_row : (rows : List ℕ) (count : ℕ) → Option ℕ
lowest_row rows count = let i = lowest rows count 0 in cond (ltb i count) (Some i) None

-- 1 to 7
abbrev pub tests : Call → Rooms → List Test
tests c r =
    let count = row_count c.rows in let n = rounds_of count in let need = needed_words c.modes.drawn n in let low = lowest c.rows count 0 in
    test (not (eqb (length c.rows % 8) 0)) RaggedRows
    ∷ test (ltb max_rows count) TooManyRows
    ∷ test (not (is_size count)) NotPowerOfTwo
    ∷ test (ltb (length c.challenges) need) ShortChallenges
    ∷ test (short_room c.modes.assert_zero c.modes.sized n r) ShortRoom
    ∷ test (not (all_canonical c.rows)) (BadWord (first_bad c.rows) Rows)
    ∷ test (not (all_canonical (take need c.challenges))) (BadWord (first_bad (take need c.challenges)) Challenges)
    ∷ test (c.modes.live && ltb low count) (ZeroDenominator low) ∷ []

unfoldable pub first_refusal : Call → Rooms → Tested
first_refusal c r = first_of (tests c r)

-- as the code answers it, with the rounds of so many rows
abbrev pub as_gate : (count : ℕ) → Tested → Result ℕ Refusal
as_gate count passed = Ok (rounds_of count)
as_gate count (refused e) = Err e
