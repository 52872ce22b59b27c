-- A text as lines, and what reading them leaves in a list of words.
-- Assumes nothing.
use Rattle.std.specs.Prelude.{ℕ, suc, ◌+◌, Bool, cond, List, [], ◌∷◌, length, ◌==◌, nat_le, Option, Some, None, Result, Ok, Err}
use Rattle.std.proofs.lemmas.List.Edits.{sets}
use Rattle.field.specs.declared.Ext.{Ext}
use Rattle.wire.specs.Words.{ext_words}
use Rattle.sheet_text.specs.declared.Line.{Line}
use Rattle.sheet_text.specs.declared.PlaceError.{PlaceError}
use Rattle.sheet_text.specs.declared.PlaceError.TheVariants.{Other, Full}
use Rattle.sheet_text.specs.declared.ListError.{ListError}
use Rattle.sheet_text.specs.declared.ListError.TheVariants as List
use Rattle.sheet_text.specs.Lines.{line_of}

-- how many bytes stand before the first b
unfoldable pub length_to : ℕ → List ℕ → ℕ
length_to b [] = 0
length_to b (x ∷ rest) = cond (x == b) 0 (suc (length_to b rest))

-- a byte in front of the first line
unfoldable pub longer : ℕ → List (List ℕ) → List (List ℕ)
longer b [] = (b ∷ []) ∷ []
longer b (l ∷ ls) = (b ∷ l) ∷ ls

-- the lines of a text, each ended by a line feed, the last one or by the end
unfoldable pub lines_of : List ℕ → List (List ℕ)
lines_of [] = []
lines_of (b ∷ rest) = cond (b == 10) ([] ∷ lines_of rest) (longer b (lines_of rest))

-- what a line leaves: where the words go on, and the words
pub record Left : Type 0 where
  pub answer : Result ℕ PlaceError
  pub words : List ℕ

unfoldable pub put_single : ℕ → List ℕ → Ext → Left
put_single at ws e = cond (nat_le (at + 4) (length ws)) (record { answer = Ok (at + 4); words = sets ws at (ext_words e) }) (record { answer = Err Full; words = ws })

unfoldable pub put_fraction : ℕ → List ℕ → Ext → Ext → Left
put_fraction at ws p q =
    cond (nat_le (at + 8) (length ws)) (record { answer = Ok (at + 8); words = sets (sets ws at (ext_words p)) (at + 4) (ext_words q) }) (record { answer = Err Full; words = ws })

-- a line of the other kind, or of none, changes nothing
unfoldable pub put_line : Bool → ℕ → List ℕ → Option Line → Left
put_line pairs at ws None = record { answer = Err Other; words = ws }
put_line pairs at ws (Some Line.Skipped) = record { answer = Ok at; words = ws }
put_line pairs at ws (Some (Line.Single e)) = cond pairs (record { answer = Err Other; words = ws }) (put_single at ws e)
put_line pairs at ws (Some (Line.Fraction p q)) = cond pairs (put_fraction at ws p q) (record { answer = Err Other; words = ws })

-- what a list leaves
pub record Ended : Type 0 where
  pub answer : Result ℕ ListError
  pub words : List ℕ

-- what is wrong with a list whose line n is not put
abbrev pub error_at : ℕ → PlaceError → ListError
error_at n Other = List.Malformed n
error_at n Full = List.Full n

-- after line n: the rest, or the end of the reading
unfoldable pub go_on : ℕ → Left → (ℕ → List ℕ → Ended) → Ended
go_on n left next = by left.answer left.words where
  by : Result ℕ PlaceError → List ℕ → Ended
  by (Ok at) ws = next at ws
  by (Err e) ws = record { answer = Err (error_at n e); words = ws }

-- the lines after line n, into the words from a place on
unfoldable pub read_lines : Bool → ℕ → ℕ → List ℕ → List (List ℕ) → Ended
read_lines pairs n at ws [] = record { answer = Ok at; words = ws }
read_lines pairs n at ws (l ∷ ls) = go_on (n + 1) (put_line pairs at ws (line_of l)) (λ at' ws'. read_lines pairs (n + 1) at' ws' ls)

abbrev pub list_read : Bool → List ℕ → List ℕ → Ended
list_read pairs text ws = read_lines pairs 0 0 ws (lines_of text)
