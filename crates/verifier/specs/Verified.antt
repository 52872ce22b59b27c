-- What verify_gkr answers and uses up, and what it leaves in point and log, for every proof, rounds, mode, challenges and room.
-- Assumes nothing.
use Rattle.std.specs.Prelude.{Result, Ok, Err, Bool, true, cond, not, ◌&&◌, ◌||◌, List, [], ◌∷◌, ℕ, ◌*◌, ◌-◌, eqb, ltb, length, take}
use Rattle.field.specs.Ext as E
use Rattle.field.specs.Extension.{Extension}
use Rattle.field.specs.Element.{enc}
use Rattle.gkr.specs.Gkr as Gkr
use Rattle.gkr.specs.Transcripts.{empty, Source}
use Rattle.transcript.specs.Source.{source}
use Rattle.transcript.specs.Log.{Drawing}
use Rattle.transcript.specs.Bound.{bound}
use Rattle.transcript.specs.declared.Used.{Used}
use Rattle.transcript.specs.Used.{unused, used_up}
use Rattle.refusal.specs.Limits.{max_rounds}
use Rattle.refusal.specs.declared.Verifying.{Verifying}
use Rattle.refusal.specs.declared.Refusal.{Refusal}
use Rattle.refusal.specs.declared.Refusal.TheVariants.{ShortChallenges, ShortRoom, BadWord, ZeroRounds, TooManyRounds, BadVersion, BadLength, IncorrectLayerCount, IncorrectSumcheckPolyCount, InvalidZeroRoundValue, ZeroRoot}
use Rattle.refusal.specs.declared.Words.TheVariants.{Proof, Challenges}
use Rattle.refusal.specs.Tests.{Test, Tested, passed, refused, test, first_of}
use Rattle.refusal.specs.Fronts.{over}
use Rattle.sizes.specs.Sizes.{needed_words, log_room}
use Rattle.wire.specs.Words.{all_canonical, first_bad}
use Rattle.stored.specs.Layout.{proof_words}
use Rattle.stored.specs.Parse.{count_of_layers, count_of_entries, known, sized, fits, proof_of}
use Rattle.stored.specs.Elements.{decoded, over_zero}
use Rattle.verifier_round.specs.declared.Claims.{Claims}
use Rattle.verifier_round.specs.Verdicts.{Model, answer_of, point_of, left_by, logged_by}

-- what a call is given: a proof's bytes, the rounds, the modes of verifying, and challenge words, four a challenge
pub record Asked : Type 0 where
  pub proof : List ℕ
  pub rounds : ℕ
  pub modes : Verifying
  pub challenges : List ℕ

abbrev pub asked : (proof : List ℕ) (rounds : ℕ) (modes : Verifying) (challenges : List ℕ) → Asked
asked proof rounds modes challenges = record { proof = proof; rounds = rounds; modes = modes; challenges = challenges }

-- the two buffers lent
pub record Lent : Type 0 where
  pub point : List ℕ
  pub log : List ℕ

abbrev pub lent : (point log : List ℕ) → Lent
lent point log = record { point = point; log = log }

-- an answer, what was used up, and words for both buffers: what they hold after it, or what is written at their fronts
pub record Outcome : Type 0 where
  pub answer : Result Claims Refusal
  pub used : Used
  pub buffers : Lent

abbrev pub outcome : Result Claims Refusal → Used → (point log : List ℕ) → Outcome
outcome answer used point log = record { answer = answer; used = used; buffers = lent point log }

-- the needed challenges, and where a run's come from
abbrev pub needed : Asked → List ℕ
needed a = take (needed_words a.modes.drawn a.rounds) a.challenges

abbrev pub source_of : Asked → Source E.Ext
source_of a = source a.modes.drawn (needed a)

-- both counts are those of the rounds
abbrev pub counted : (proof : List ℕ) (rounds : ℕ) → Bool
counted proof rounds = eqb (count_of_layers proof) rounds && eqb (count_of_entries proof) (rounds - 1)

-- one round or more, both counts right, and q0 is zero
abbrev pub rootless : (proof : List ℕ) (rounds : ℕ) → Bool
rootless proof rounds = not (eqb rounds 0) && (counted proof rounds && over_zero proof)

-- the refusals before the run, by the lengths of point and log
abbrev pub tests : Asked → (points logs : ℕ) → List Test
tests a points logs = test (eqb a.rounds 0 && not a.modes.empty) ZeroRounds
    ∷ test (ltb max_rounds a.rounds) TooManyRounds
    ∷ test (ltb (length a.challenges) (needed_words a.modes.drawn a.rounds)) ShortChallenges
    ∷ test (not (known a.proof)) BadVersion
    ∷ test (ltb points (4 * a.rounds) || ltb logs (log_room true (sized a.proof) a.rounds)) ShortRoom
    ∷ test (not (fits a.proof)) BadLength
    ∷ test (not (all_canonical (proof_words (proof_of a.proof)))) (BadWord (first_bad (proof_words (proof_of a.proof))) Proof)
    ∷ test (not (all_canonical (needed a))) (BadWord (first_bad (needed a)) Challenges)
    ∷ test (a.modes.live && rootless a.proof a.rounds) ZeroRoot ∷ []

-- what a verdict of the model answers, has used up and writes
abbrev pub ended : (ch : Source E.Ext) → Model ch → Outcome
ended ch v = outcome (answer_of ch v) (used_up (left_by ch v)) (point_of ch v) (logged_by ch v)

-- 0 rounds, where they are valid: no layer, no entry, and q0 is 1
abbrev pub empty_tests : (proof : List ℕ) → List Test
empty_tests proof = let q0 = (decoded (proof_of proof)).q0 in
    test (not (eqb (count_of_layers proof) 0)) (IncorrectLayerCount 0 (count_of_layers proof))
    ∷ test (not (eqb (count_of_entries proof) 0)) (IncorrectSumcheckPolyCount 0 (count_of_entries proof))
    ∷ test (not (E.same q0 E.one)) (InvalidZeroRoundValue (enc q0)) ∷ []

-- the claims are 0 and 1
abbrev pub emptied : Tested → Result Claims Refusal
emptied passed = Ok (record { numer = enc E.nil; denom = enc E.one })
emptied (refused e) = Err e

-- what a call answers, uses up and writes: nothing where it is refused before the run, or has no rounds; else what the model's verifier does over an empty log, or, where the proof binds its size, one that holds the rounds
abbrev pub fronts : Asked → Tested → Outcome
fronts a (refused e) = outcome (Err e) unused [] []
fronts a passed = cond (eqb a.rounds 0) (outcome (emptied (first_of (empty_tests a.proof))) unused [] [])
    (let ch = source_of a in ended ch (Gkr.verify_gkr Extension (Drawing ch) a.rounds (decoded (proof_of a.proof)) (bound (sized a.proof) a.rounds empty)))

-- written at the fronts of the buffers, the rest as before
abbrev pub laid : Outcome → Lent → Outcome
laid f b = outcome f.answer f.used (over f.buffers.point b.point) (over f.buffers.log b.log)

unfoldable pub verified : Asked → Lent → Outcome
verified a b = laid (fronts a (first_of (tests a (length b.point) (length b.log)))) b
