-- The model's transcript over lent buffers: challenges from a source, and the log that a buffer holds up to a place.
-- Assumes nothing.
use Rattle.std.specs.Prelude.{◌≡◌, Bool, false, List, [], ℕ, ◌+◌, ◌*◌, ◌/◌, ◌<◌, ◌≤◌, length, take, drop, set}
use Rattle.field.specs.Base.{P}
use Rattle.field.specs.Ext as E
use Rattle.field.specs.Element.{words}
use Rattle.field.specs.Cells.{Clean}
use Rattle.gkr.specs.Run.{Transcript}
use Rattle.gkr.specs.Transcripts.{Words, mark, Source, drawing}
use Rattle.shake.specs.declared.Sponge.{Sponge}
use Rattle.shake.specs.Drawn.{message, drawn, Holds}
use Rattle.transcript.specs.declared.Transcript.{Transcript as Lent}
use Rattle.transcript.specs.declared.DrawnWord.{DrawnWord}
use Rattle.transcript.specs.Source.{supplied, source, label}

-- the transcript with challenges from a source
abbrev pub Drawing : Source E.Ext → Transcript E.Ext
Drawing = drawing words

-- where nothing is sampled, any source will do
abbrev pub Observing : Transcript E.Ext
Observing = Drawing (supplied [])

-- a transcript at rest: the words of its log's buffer, how many of them are logged, the challenges taken, the sponge, and where challenges come from
pub record State : Type 0 where
  pub buffer : List ℕ
  pub put : ℕ
  pub used : ℕ
  pub sponge : Sponge
  pub drawn : Bool
  pub challenges : List ℕ

abbrev pub state : Lent → State
state t = record { buffer = t.log.now; put = t.put; used = t.used; sponge = t.sponge; drawn = t.drawn; challenges = t.challenges.now }

-- its log
abbrev pub log_of : State → Words
log_of s = record { log = take s.put s.buffer; used = s.used }

-- the source of its challenges
abbrev pub source_of : State → Source E.Ext
source_of s = source s.drawn s.challenges

-- the sponge has taken in blocks of the label and the log
abbrev pub Absorbed : State → Type 0
Absorbed s = Holds s.sponge (message label (log_of s).log)

-- From a state on k more challenges can be had: where they are not drawn, those supplied suffice and their words are canonical. Each that was used stands in the log.
pub record Enough (s : State) (k : ℕ) : Type 0 where
  pub room : s.drawn ≡ false → 4 * (s.used + k) ≤ length s.challenges
  pub clean : s.drawn ≡ false → Clean s.challenges
  pub counted : s.used ≤ s.put
  pub absorbed : Absorbed s

-- From s to s', n words and m challenges on: the log is then t, and past it the buffer is as before.
pub record Steps (s s' : State) (n m : ℕ) (t : Words) : Type 0 where
  pub room : length s'.buffer ≡ length s.buffer
  pub put : s'.put ≡ s.put + n
  pub used : s'.used ≡ s.used + m
  pub drawn : s'.drawn ≡ s.drawn
  pub challenges : s'.challenges ≡ s.challenges
  pub log : log_of s' ≡ t
  pub rest : drop s'.put s'.buffer ≡ drop s'.put s.buffer
  pub absorbed : Absorbed s → Absorbed s'

-- A word is drawn where `put` words are logged, and stands behind them with its top bit set; the sponge has taken in all whole blocks before it.
pub record WordDrawn (ws ws' : List ℕ) (put : ℕ) (r : DrawnWord) : Type 0 where
  pub word : r.word ≡ drawn label (take put ws)
  pub below : r.word < P
  pub log : ws' ≡ set ws put (mark r.word)
  pub holds : Holds r.sponge (message label (take put ws))
  pub blocks : r.sponge.blocks ≡ (length label + 4 * put) / 168
