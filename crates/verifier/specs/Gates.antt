-- What the checks before the run tell the run, and what the run leaves.
-- Assumes nothing.
use Rattle.std.specs.Prelude.{◌≡◌, Result, Ok, Err, Bool, true, false, cond, ◌&&◌, List, ◌++◌, ℕ, ◌*◌, ◌≤◌, length, take, drop}
use Rattle.field.specs.Ext as E
use Rattle.field.specs.Extension.{Extension}
use Rattle.field.specs.Cells.{Clean}
use Rattle.gkr.specs.Transcripts.{Source, empty}
use Rattle.gkr.specs.Gkr as Gkr
use Rattle.shake.specs.Drawn.{Holds}
use Rattle.transcript.specs.declared.Used.{Used}
use Rattle.transcript.specs.Log.{Drawing, State}
use Rattle.transcript.specs.Bound.{bound}
use Rattle.refusal.specs.Limits.{max_rounds}
use Rattle.refusal.specs.declared.Verifying.{Verifying}
use Rattle.refusal.specs.declared.Refusal.{Refusal}
use Rattle.refusal.specs.declared.Refusal.TheVariants.{BadWord, ZeroRoot}
use Rattle.refusal.specs.declared.Words.TheVariants.{Proof, Challenges}
use Rattle.refusal.specs.Tests.{passed, refused, first_of}
use Rattle.sizes.specs.Sizes.{needed_words, log_room}
use Rattle.wire.specs.Words.{all_canonical, first_bad}
use Rattle.stored.specs.declared.Outline.{Outline}
use Rattle.stored.specs.Layout.{proof_words}
use Rattle.stored.specs.Parse.{sized, proof_of}
use Rattle.stored.specs.ParseLaws.{Shaped}
use Rattle.stored.specs.Elements.{decoded}
use Rattle.verifier_round.specs.declared.Claims.{Claims}
use Rattle.verifier_round.specs.Verdicts.{Model}
use Rattle.verifier_rounds.specs.Runs.{Ends}
use Rattle.verifier.specs.declared.Ending.{Ending}
use Rattle.verifier.specs.Verified.{Asked, rootless, tests}

abbrev pub words_gate : (bs : List ℕ) (o : Outline) (needs : List ℕ) → Result Outline Refusal
words_gate bs o needs =
    let ws = proof_words (proof_of bs) in
    cond (all_canonical ws) (cond (all_canonical needs) (Ok o) (Err (BadWord (first_bad needs) Challenges))) (Err (BadWord (first_bad ws) Proof))

-- live, a root over zero, of one round or more, where both counts are right
abbrev pub root_gate : (modes : Verifying) (bs : List ℕ) (n : ℕ) (o : Outline) → Result Outline Refusal
root_gate modes bs n o = cond (modes.live && rootless bs n) (Err ZeroRoot) (Ok o)

-- without live mode, which is about the root alone
abbrev pub unrooted : Verifying → Verifying
unrooted modes = record { live = false; drawn = modes.drawn; empty = modes.empty }

-- the run looks at no mode but this
abbrev pub sandbox : (drawn : Bool) → Verifying
sandbox drawn = record { live = false; drawn = drawn; empty = false }

-- nothing is refused before the run, and the bytes have this outline
pub record Opened (a : Asked) (points logs : ℕ) (o : Outline) : Type 0 where
  pub passes : first_of (tests a points logs) ≡ passed
  pub shaped : Shaped a.proof o

abbrev pub Gated : (a : Asked) (points logs : ℕ) → Result Outline Refusal → Type 0
Gated a points logs (Ok o) = Opened a points logs o
Gated a points logs (Err e) = first_of (tests a points logs) ≡ refused e

-- what the run asks, from a state of the transcript
pub record Ready (bs pt : List ℕ) (t : State) (n : ℕ) (o : Outline) : Type 0 where
  pub some : 1 ≤ n
  pub few : n ≤ max_rounds
  pub shaped : Shaped bs o
  pub canon : all_canonical (proof_words (proof_of bs)) ≡ true
  pub room : 4 * n ≤ length pt
  pub log_room_fits : log_room true (sized bs) n ≤ length t.buffer
  pub chals : needed_words t.drawn n ≤ length t.challenges
  pub points : Clean pt
  pub clean : Clean t.challenges

-- what no rounds ask
pub record ReadyEmpty (bs : List ℕ) (o : Outline) : Type 0 where
  pub shaped : Shaped bs o
  pub canon : all_canonical (proof_words (proof_of bs)) ≡ true

-- nothing is written or used yet, and nothing taken in
pub record Starts (t : State) : Type 0 where
  pub put : t.put ≡ 0
  pub used : t.used ≡ 0
  pub holds : (m : List ℕ) → Holds t.sponge m

-- the model's verifier over the proof that stands in the bytes
abbrev pub verdict : (bs : List ℕ) (n : ℕ) (ch : Source E.Ext) → Model ch
verdict bs n ch = Gkr.verify_gkr Extension (Drawing ch) n (decoded (proof_of bs)) (bound (sized bs) n empty)

-- the run from a state ends as the model's does
abbrev pub Counted : (bs pt' : List ℕ) (t t' : State) (ch : Source E.Ext) (n : ℕ) → Result Claims Refusal → Type 0
Counted bs pt' t t' ch n r = Ends t t' pt' ch n (verdict bs n ch) r

-- what a run leaves of the point found, n words of it or none
abbrev pub point_left : Result Claims Refusal → (n : ℕ) (found point : List ℕ) → List ℕ
point_left (Ok s) n found point = take n found ++ drop n point
point_left (Err e) n found point = point

-- how a call ends
abbrev pub ending : Result Claims Refusal → Used → Ending
ending verdict used = record { verdict = verdict; used = used }
