-- How much room a run asks for, for numbers of rounds and rows that are taken, and one answer for all others.
-- Assumes nothing.
use Rattle.std.specs.Prelude.{cond, ℕ, ◌+◌, ◌*◌, leb}
use Rattle.gkr.specs.Sizes.{challenges, proof_bytes, point_words}
use Rattle.refusal.specs.Limits.{max_rounds}
use Rattle.sizes.specs.Sizes.{rounds_of, is_size, log_room, work_room}
use Rattle.accudrina.specs.Modes.{ASSERT_ZERO, SIZED, has}

-- the room for so many rounds; for more than are taken it is 0
abbrev pub taken : ℕ → ℕ → ℕ
taken n room = cond (leb n max_rounds) room 0

abbrev pub bytes_of_proof : ℕ → ℕ
bytes_of_proof n = taken n (proof_bytes n)

abbrev pub words_of_point : ℕ → ℕ
words_of_point n = taken n (point_words n)

abbrev pub words_of_log : (n modes : ℕ) → ℕ
words_of_log n modes = taken n (log_room (has ASSERT_ZERO modes) (has SIZED modes) n)

abbrev pub words_of_workspace : ℕ → ℕ
words_of_workspace n = taken n (work_room n)

abbrev pub challenge_words : ℕ → ℕ
challenge_words n = taken n (4 * challenges n)

-- the rounds of so many rows; one more than are taken where the rows are not
abbrev pub rounds : ℕ → ℕ
rounds rows = cond (is_size rows) (rounds_of rows) (max_rounds + 1)
