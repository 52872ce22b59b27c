-- Where the challenges of a call come from: supplied in a buffer, or drawn from the log with SHAKE128.
-- Assumes nothing.
use Rattle.std.specs.Prelude.{Bool, true, false, List, [], ◌∷◌, ◌++◌, ℕ, zero, suc}
use Rattle.field.specs.Ext as E
use Rattle.field.specs.Cells.{cell}
use Rattle.gkr.specs.Transcripts.{mark, Source}
use Rattle.shake.specs.Drawn.{drawn}

-- the challenges supplied in a buffer, used in their order
abbrev pub supplied : List ℕ → Source E.Ext
supplied buffer t = cell buffer t.used

-- the label that is absorbed first, the ASCII bytes of frac-gkr/1
unfoldable pub label : List ℕ
label = 102 ∷ 114 ∷ 97 ∷ 99 ∷ 45 ∷ 103 ∷ 107 ∷ 114 ∷ 47 ∷ 49 ∷ []

-- k words in turn, each drawn over the label and the log that holds those before it, their sampled bits set
unfoldable pub drawn_words : (k : ℕ) (log : List ℕ) → List ℕ
drawn_words zero log = []
drawn_words (suc k) log = let w = drawn label log in w ∷ drawn_words k (log ++ (mark w ∷ []))

-- a drawn challenge is four such words
abbrev pub drawn_source : Source E.Ext
drawn_source t = cell (drawn_words 4 t.log) 0

-- the source of a call's challenges
abbrev pub source : (drawn : Bool) (buffer : List ℕ) → Source E.Ext
source true buffer = drawn_source
source false buffer = supplied buffer
