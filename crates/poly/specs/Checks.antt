-- The refusals of the helpers over lists: document 01's order, once for all of them.
-- Assumes nothing.
use Rattle.std.specs.Prelude.{Bool, true, false, List, ℕ, ◌/◌, ◌%◌, eqb, leb, length, Result, Ok, Err}
use Rattle.refusal.specs.Limits.{max_rounds, max_rows}
use Rattle.refusal.specs.declared.Refusal.{Refusal}
use Rattle.refusal.specs.declared.Refusal.TheVariants.{TooManyRows, NotPowerOfTwo, ShortRoom, BadWord, TooManyRounds, BadLength}
use Rattle.refusal.specs.declared.Words.TheVariants.{Own}

-- What is asked of the sizes; a question that a helper does not ask is answered by 0 or true.
pub record Sizes : Type 0 where
  -- the lists are of equal length, and no element is split
  pub lists : Bool
  pub variables : ℕ
  -- the table has 2 ^ variables entries
  pub table : Bool
  -- entries or coefficients
  pub entries : ℕ
  -- the entries are a power of two
  pub power : Bool
  -- the target is long enough
  pub room : Bool

-- a word of a helper's own lists: neither its place nor its list is told
abbrev pub bad_word : Refusal
bad_word = BadWord 0 Own

abbrev pub unless : {A : Type 0} → Bool → Refusal → Result A Refusal → Result A Refusal
unless true why rest = rest
unless false why rest = Err why

-- the first test that fails answers; `words` says whether all words are canonical
unfoldable pub refusal : Sizes → (words : Bool) → Result (Unit {0}) Refusal
refusal s words =
    unless s.lists BadLength
    (unless (leb s.variables max_rounds) TooManyRounds
    (unless s.table BadLength
    (unless (leb s.entries max_rows) TooManyRows (unless s.power NotPowerOfTwo
    (unless s.room ShortRoom
    (unless words bad_word (Ok tt)))))))

-- no element of a list is split
abbrev pub whole : List ℕ → Bool
whole ws = eqb (length ws % 4) 0

-- how many elements it has
abbrev pub count : List ℕ → ℕ
count ws = length ws / 4
