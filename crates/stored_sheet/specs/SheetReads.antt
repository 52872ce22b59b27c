-- What the sheet reader and the sheet writer answer, and what they leave in the buffer: the first refusal of document 01's order, or done.
-- Assumes nothing.
use Rattle.std.specs.Prelude.{Result, Ok, Err, true, cond, not, List, [], ◌∷◌, ◌++◌, ℕ, ◌+◌, ◌*◌, ◌/◌, ◌%◌, eqb, ltb, length, get_or, drop}
use Rattle.refusal.specs.Limits.{max_rows}
use Rattle.refusal.specs.Powers.{power_of_two}
use Rattle.refusal.specs.declared.Refusal.{Refusal}
use Rattle.refusal.specs.declared.Refusal.TheVariants.{RaggedRows, TooManyRows, NotPowerOfTwo, ShortRoom, BadWord, BadVersion, BadLength}
use Rattle.refusal.specs.declared.Words.TheVariants.{Rows}
use Rattle.refusal.specs.Tests.{Test, Tested, passed, refused, test, first_of}
use Rattle.wire.specs.Words.{all_canonical, first_bad}
use Rattle.stored_sheet.specs.Sheet.{sheet, row_count, row_words}

-- a count of rows, the room for what they need, and their words: 2, 3, 5, 6
abbrev pub sized : (n need room : ℕ) (ws : List ℕ) → List Test
sized n need room ws = test (ltb max_rows n) TooManyRows
    ∷ test (not (cond (eqb n 0) true (power_of_two n))) NotPowerOfTwo
    ∷ test (ltb room need) ShortRoom
    ∷ test (not (all_canonical ws)) (BadWord (first_bad ws) Rows) ∷ []

abbrev pub tested : (n : ℕ) → Tested → Result ℕ Refusal
tested n passed = Ok n
tested n (refused e) = Err e

pub record SheetEnd : Type 0 where
  pub answer : Result ℕ Refusal
  pub buffer : List ℕ

-- done puts the words in front; a refusal leaves the buffer as it was
abbrev pub sheet_end : Result ℕ Refusal → List ℕ → List ℕ → SheetEnd
sheet_end (Ok n) ws old = record { answer = Ok n; buffer = ws ++ drop (length ws) old }
sheet_end (Err e) ws old = record { answer = Err e; buffer = old }

-- the reader, of bytes and a buffer of words: 12, 13, 2, 3, 5, 6, then the row count
unfoldable pub read_answer : List ℕ → ℕ → Result ℕ Refusal
read_answer bs room = let n = row_count bs in
    tested n (first_of (test (not (eqb (get_or bs 0 0) 1)) BadVersion ∷ test (not (eqb (3 + 32 * n) (length bs))) BadLength ∷ sized n (8 * n) room (row_words bs)))

abbrev pub sheet_read : List ℕ → List ℕ → SheetEnd
sheet_read bs old = sheet_end (read_answer bs (length old)) (row_words bs) old

-- the writer, of the words of rows and a buffer of bytes: 1, 2, 3, 5, 6, then the number of bytes
unfoldable pub write_answer : List ℕ → ℕ → Result ℕ Refusal
write_answer ws room = let need = 3 + 4 * length ws in
    tested need (first_of (test (not (eqb (length ws % 8) 0)) RaggedRows ∷ sized (length ws / 8) need room ws))

abbrev pub sheet_written : List ℕ → List ℕ → SheetEnd
sheet_written ws old = sheet_end (write_answer ws (length old)) (sheet ws) old
