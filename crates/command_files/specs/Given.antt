-- The words that were given in a file, and what they leave in a buffer.
-- Assumes nothing.
use Rattle.std.specs.Prelude.{◌≡◌, false, if◌then◌else◌, List, ℕ, ◌*◌, ◌/◌, ◌==◌, length, Option, Some, None, Result, Ok, Err}
use Rattle.refusal.specs.declared.Refusal.{Refusal}
use Rattle.stored_sheet.specs.SheetReads.{SheetEnd, sheet_read}
use Rattle.sheet_text.specs.declared.ListError.{ListError}
use Rattle.sheet_text.specs.declared.ListError.TheVariants.{Full, Malformed}
use Rattle.sheet_text.specs.Reading.{Ended, list_read}
use Rattle.answers.specs.Counting.{counted_up}

-- how many words there are, if any are given, and the buffer
pub record End : Type 0 where
  pub given : Option ℕ
  pub words : List ℕ

abbrev pub some : ℕ → List ℕ → End
some n ws = record { given = Some n; words = ws }

abbrev pub nothing : List ℕ → End
nothing ws = record { given = None; words = ws }

-- a sheet's answer, told in words: eight a row
abbrev pub told_rows : Result ℕ Refusal → List ℕ → End
told_rows (Ok n) ws = some (8 * n) ws
told_rows (Err e) ws = nothing ws

abbrev pub rows_of : SheetEnd → End
rows_of e = told_rows e.answer e.buffer

-- a list's answer: of a longer one the words that there is room for
abbrev pub told_list : Result ℕ ListError → List ℕ → End
told_list (Ok n) ws = some n ws
told_list (Err (Full line)) ws = some (length ws) ws
told_list (Err (Malformed line)) ws = nothing ws

abbrev pub elements_of : Ended → End
elements_of e = told_list e.answer e.words

-- the bytes of a file, of which no contract can speak; or it was not read, or not to its end
pub data Contents : Type 0 where
  unread : Contents
  held : List ℕ → Contents

abbrev pub sheet_given : List ℕ → Contents → End
sheet_given old unread = nothing old
sheet_given old (held bytes) = rows_of (sheet_read bytes old)

abbrev pub elements_given : List ℕ → Contents → End
elements_given old unread = nothing old
elements_given old (held text) = elements_of (list_read false text old)

-- of a name so long; an empty one stands for counted challenges
abbrev pub challenges_given : ℕ → List ℕ → Contents → End
challenges_given name old file = if name == 0 then some (length old) (counted_up (length old / 4) old) else elements_given old file

-- for some contents of a file, the end is what this gives for them
pub record FromFile (gives : Contents → End) (end : End) : Type 0 where
  pub contents : Contents
  pub same : end ≡ gives contents
