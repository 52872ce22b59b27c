-- What the inner functions of a replay answer.
-- Assumes nothing.
use Rattle.std.specs.Prelude.{⊤, Result, Ok, Err, Bool, cond, not, eqb, ◌&&◌, List, ℕ, ◌+◌, ◌*◌, ◌^◌, leb, ltb, length, set}
use Rattle.refusal.specs.Limits.{max_rounds}
use Rattle.transcript.specs.Used.{unused}
use Rattle.verifier_round.specs.declared.Claims.{Claims}
use Rattle.refusal.specs.declared.Refusal.{Refusal}
use Rattle.verifier.specs.declared.Ending.{Ending}
use Rattle.log_replay.specs.Replayed.{plain_word, Compared, same, differs, of_run, compared, Outcome, outcome}

-- whether a word of a log goes to place k of some words: it was sampled, and there is room; the words then, and the next place
abbrev pub goes : (w : ℕ) (words : List ℕ) (k : ℕ) → Bool
goes w words k = leb (2 ^ 31) w && ltb k (length words)

abbrev pub placed : (w : ℕ) (words : List ℕ) (k : ℕ) → List ℕ
placed w words k = cond (goes w words k) (set words k (plain_word w)) words

abbrev pub next_place : (w : ℕ) (words : List ℕ) (k : ℕ) → ℕ
next_place w words k = cond (goes w words k) (k + 1) k

-- two words that differ
abbrev pub differ : ℕ × ℕ → Bool
differ p = not (eqb p.0 p.1)

-- an answer as the comparison that it tells
abbrev pub as_compared : Result ⊤ Refusal → Compared
as_compared (Ok _) = same
as_compared (Err e) = differs e

-- the gap between the log given and the log left, where the verdict comes of a run
abbrev pub gap : Result Claims Refusal → (given left : List ℕ) → Compared
gap v given left = cond (of_run v) (compared given left 0) same

-- no more words of a point than any run writes
abbrev pub fits : ℕ → ℕ
fits points = cond (ltb points (4 * max_rounds)) points (4 * max_rounds)

-- without a gap the verifier's ending stands, with the point found; with one its refusal, nothing used up, and the point as it was
abbrev pub settled : Compared → Ending → (found point : List ℕ) → Outcome
settled same e found point = outcome e.verdict e.used found
settled (differs r) e found point = outcome (Err r) unused point
