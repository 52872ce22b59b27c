-- What a replay of a proof from a log answers, uses up and leaves in the point: the plain verifier on the log's own challenges, and the log must be the one that it leaves.
-- Assumes nothing.
use Rattle.std.specs.Prelude.{Result, Ok, Err, Bool, true, cond, ◌&&◌, List, [], ◌∷◌, ◌++◌, map, ℕ, suc, ◌*◌, ◌-◌, ◌^◌, eqb, leb, ltb, length, take, replicate}
use Rattle.field.specs.Base.{P}
use Rattle.gkr.specs.Sizes.{challenges}
use Rattle.gkr.specs.TranscriptLaws.{sampled_words}
use Rattle.transcript.specs.declared.Used.{Used}
use Rattle.transcript.specs.Used.{unused}
use Rattle.refusal.specs.Limits.{max_rounds}
use Rattle.refusal.specs.declared.Refusal.{Refusal}
use Rattle.refusal.specs.declared.Refusal.TheVariants.{LogMismatch, LogShort, LogLong}
use Rattle.refusal.specs.declared.Verifying.{Verifying}
use Rattle.refusal.specs.Numbers.{report_of}
use Rattle.refusal.specs.Tests.{first_of}
use Rattle.refusal.specs.Fronts.{over}
use Rattle.sizes.specs.Sizes.{log_room}
use Rattle.verifier_round.specs.declared.Claims.{Claims}
use Rattle.verifier.specs.Verified as Verifier
use Rattle.verifier.specs.Verified.{Asked, asked, tests, fronts}

-- what a call is given: a proof's bytes, the rounds, the modes of verifying, and a log's words
pub record Kept : Type 0 where
  pub proof : List ℕ
  pub rounds : ℕ
  pub modes : Verifying
  pub log : List ℕ

abbrev pub kept : (proof : List ℕ) (rounds : ℕ) (modes : Verifying) (log : List ℕ) → Kept
kept proof rounds modes log = record { proof = proof; rounds = rounds; modes = modes; log = log }

-- a sampled word without its bit; 0 for one that is not canonical, which no verifier leaves
abbrev pub plain_word : ℕ → ℕ
plain_word w = let v = w - 2 ^ 31 in cond (ltb v P) v 0

-- as many challenge words as any run takes
abbrev pub most_words : ℕ
most_words = 4 * challenges max_rounds

-- the log's challenges: its sampled words, filled up with zeros
abbrev pub challenges_of : List ℕ → List ℕ
challenges_of log = take most_words (map plain_word (sampled_words log) ++ replicate most_words 0)

-- the plain verifier on them, over a room for the point and a log with room for every run
abbrev pub call_of : Kept → Asked
call_of k = asked k.proof k.rounds k.modes (challenges_of k.log)

abbrev pub plain : (k : Kept) (points : ℕ) → Verifier.Outcome
plain k points = fronts (call_of k) (first_of (tests (call_of k) points (log_room true true max_rounds)))

-- whether a verdict comes of a run, or of no rounds that are accepted: then the log is looked at
abbrev pub of_run : Result Claims Refusal → Bool
of_run (Ok claims) = true
of_run (Err e) = leb 16 (report_of e).number && leb (report_of e).number 19

-- the log given against the log left, from a place on: the first word that differs, or the end of the shorter
pub data Compared : Type 0 where
  same : Compared
  differs : Refusal → Compared

unfoldable pub compared : (given left : List ℕ) (place : ℕ) → Compared
compared [] [] place = same
compared [] (w ∷ left) place = differs (LogShort place)
compared (g ∷ given) [] place = differs (LogLong place)
compared (g ∷ given) (w ∷ left) place = cond (eqb g w) (compared given left (suc place)) (differs (LogMismatch place))

-- an answer, what was used up, and the point's words
pub record Outcome : Type 0 where
  pub answer : Result Claims Refusal
  pub used : Used
  pub point : List ℕ

abbrev pub outcome : Result Claims Refusal → Used → (point : List ℕ) → Outcome
outcome answer used point = record { answer = answer; used = used; point = point }

abbrev pub told : Verifier.Outcome → Compared → Outcome
told o same = outcome o.answer o.used o.buffers.point
told o (differs e) = outcome (Err e) unused []

abbrev pub front : Kept → (points : ℕ) → Outcome
front k points = let o = plain k points in told o (cond (of_run o.answer) (compared k.log o.buffers.log 0) same)

-- written at the front of the point, the rest as before
unfoldable pub replayed : Kept → (point : List ℕ) → Outcome
replayed k point = let f = front k (length point) in outcome f.answer f.used (over f.point point)
