-- Document 01's worked examples K1 to K10 as one table: what is asked of the definitions that the contracts cite, and what is to come out.
-- Assumes nothing.
use Rattle.std.specs.Prelude.{◌≡◌, Bool, true, false, List, [], ◌∷◌, ◌++◌, ℕ, take, drop, replicate, Result, Ok, Err}
use Rattle.field.specs.Ext as E
use Rattle.field.specs.Ext.{ext}
use Rattle.field.specs.Extension.{Extension}
use Rattle.field.specs.Element.{enc, words, words_of_point}
use Rattle.multilinear.specs.Interpolate as Interpolate
use Rattle.gkr.specs.Run.{Frac, Proof}
use Rattle.gkr.specs.Compute.{el, minus, frac, claims, cubic}
use Rattle.gkr.specs.Sizes.{proof_bytes, point_words, log_words, workspace_words}
use Rattle.refusal.specs.declared.Verifying.{Verifying}
use Rattle.refusal.specs.declared.Refusal.{Refusal}
use Rattle.refusal.specs.declared.Refusal.TheVariants.{ZeroDenominator, NonZeroRootSum, SingleRow, ZeroCheckFailed, RootConsistencyCheckFailed, ZeroRoot}
use Rattle.transcript.specs.Used.{unused}
use Rattle.wire.specs.Bytes.{bytes_of}
use Rattle.stored.specs.Layout.{layout}
use Rattle.stored.specs.Elements.{encoded}
use Rattle.prover_gate.specs.Refusals.{Call}
use Rattle.prover.specs.Proved as Prover
use Rattle.prover.specs.declared.Done.{Done}
use Rattle.verifier.specs.Verified as Verifier
use Rattle.verifier.specs.Verified.{Lent}
use Rattle.verifier_round.specs.declared.Claims.{Claims}
use Rattle.agreement.specs.Demand3.{verdict}

-- what is asked, and what is to come out
pub record Case : Type 1 where
  pub Answers : Type 0
  pub asked : Answers
  pub expected : Answers

-- a table holds where each case does
abbrev pub Holds : List Case → Type 0
Holds [] = Unit
Holds (k ∷ ks) = (k.asked ≡ k.expected) × Holds ks

-- a sheet: the words of its rows and of its challenges
abbrev pub row_words : List (Frac E.Ext) → List ℕ
row_words [] = []
row_words (f ∷ fs) = words f.p ++ (words f.q ++ row_words fs)

abbrev pub sheet : (live asserted : Bool) (fs : List (Frac E.Ext)) (challenges : List E.Ext) → Call
sheet live asserted fs ch = record { rows = row_words fs; modes = record { live = live; assert_zero = asserted; drawn = false; sized = false }; challenges = words_of_point ch }

-- buffers of zeros, as long as n rounds need
abbrev pub room : ℕ → Prover.Buffers
room n = record { proof = replicate (proof_bytes n) 0; point = replicate (point_words n) 0; log = replicate (log_words false n) 0; work = replicate (workspace_words n) 0 }

abbrev pub room_again : ℕ → Lent
room_again n = record { point = replicate (point_words n) 0; log = replicate (log_words true n) 0 }

-- the prover's answer; its proof's bytes and its point; the verifier's answer to these bytes
abbrev pub answer : Call → ℕ → Result Done Refusal
answer c n = (Prover.proved c (room n)).answer

abbrev pub bytes : Call → ℕ → List ℕ
bytes c n = take (proof_bytes n) (Prover.proved c (room n)).buffers.proof

abbrev pub point : Call → ℕ → List ℕ
point c n = (Prover.proved c (room n)).buffers.point

abbrev pub in_sandbox : Verifying
in_sandbox = record { live = false; drawn = false; empty = false }

abbrev pub verdict_of : Verifying → Call → ℕ → Result Claims Refusal
verdict_of how c n = (verdict c how n (Prover.proved c (room n)) (room_again n)).answer

abbrev pub summed : ℕ → (p q : E.Ext) → Result Done Refusal
summed n p q = Prover.summed n (Prover.enc_frac (frac p q))

abbrev pub accepts : (p q : E.Ext) → Result Claims Refusal
accepts p q = Ok (record { numer = enc p; denom = enc q })

abbrev pub proves : Call → ℕ → Result Done Refusal → Case
proves c n a = record { Answers = Result Done Refusal; asked = answer c n; expected = a }

abbrev pub verifies : Call → ℕ → Result Claims Refusal → Case
verifies c n a = record { Answers = Result Claims Refusal; asked = verdict_of in_sandbox c n; expected = a }

abbrev pub verifies_live : Call → ℕ → Result Claims Refusal → Case
verifies_live c n a = record { Answers = Result Claims Refusal; asked = verdict_of (record { live = true; drawn = false; empty = false }) c n; expected = a }

abbrev pub ends_at : Call → ℕ → List E.Ext → Case
ends_at c n z = record { Answers = List ℕ; asked = point c n; expected = words_of_point z }

abbrev pub equals : (x y : E.Ext) → Case
equals x y = record { Answers = E.Ext; asked = x; expected = y }

-- K1: no rows, over buffers of sevens with a word more than is needed; the version, 18 bytes to follow, q0 = 1, no layer and no entry
abbrev pub K1·before : Prover.Buffers
K1·before = record { proof = replicate 24 7; point = 7 ∷ []; log = 7 ∷ []; work = 7 ∷ [] }

abbrev pub K1·bytes : List ℕ
K1·bytes = 1 ∷ 0 ∷ 0 ∷ 0 ∷ 18 ∷ 0 ∷ 0 ∷ 0 ∷ 1 ∷ replicate 14 0

abbrev pub K1 : (live asserted : Bool) → Case
K1 live asserted = record {
  Answers = Prover.Outcome;
  asked = Prover.proved (sheet live asserted [] []) K1·before;
  expected = record { answer = summed 0 (el 0) (el 1); used = unused; buffers = record { proof = K1·bytes ++ (7 ∷ []); point = 7 ∷ []; log = 7 ∷ []; work = 7 ∷ [] } };
}

abbrev pub K2 : Call
K2 = sheet false true (frac (el 1) (el 2) ∷ frac (minus 1) (el 2) ∷ []) (el 5 ∷ [])

abbrev pub K3 : Call
K3 = sheet false true (frac (el 1) (el 1) ∷ frac (el 2) (el 1) ∷ frac (minus 1) (el 1) ∷ frac (minus 2) (el 1) ∷ []) (el 2 ∷ el 1 ∷ el 3 ∷ el 4 ∷ [])

abbrev pub K3·proof : Proof E.Ext
K3·proof = record {
  q0 = el 1;
  claims = claims (el 3) (el 1) (minus 3) (el 1) ∷ claims (minus 5) (el 1) (minus 10) (el 1) ∷ [];
  polys = (cubic (minus 4) (minus 40) (minus 112) ∷ []) ∷ [];
}

abbrev pub K4 : Call
K4 = sheet false true (frac (el 0) (el 0) ∷ frac (el 0) (el 0) ∷ []) (el 5 ∷ [])

abbrev pub K6 : (asserted : Bool) → Call
K6 asserted = sheet false asserted (frac (el 1) (el 1) ∷ frac (el 1) (el 1) ∷ []) (el 5 ∷ [])

abbrev pub one_row : (asserted : Bool) (p : E.Ext) → Call
one_row asserted p = sheet false asserted (frac p (el 1) ∷ []) []

abbrev pub live : (p : E.Ext) → Call
live p = sheet true true (frac p (el 0) ∷ frac (el 0) (el 1) ∷ []) (el 5 ∷ [])

-- K2's proof with q0 = 5: the prover's own bytes, with the sixteen after version and length replaced
abbrev pub K10 : List ℕ
K10 = take 5 (bytes K2 1) ++ (bytes_of (words (el 5)) ++ drop 21 (bytes K2 1))

-- x² and x³
abbrev pub x² : E.Ext
x² = ext 0 0 1 0

abbrev pub x³ : E.Ext
x³ = ext 0 0 0 1

abbrev pub k1_to_k10 : List Case
k1_to_k10 =
    K1 false true
    ∷ K1 false false
    ∷ K1 true true
    ∷ K1 true false
    ∷ proves K2 1 (summed 1 (el 0) (el 4))
    ∷ verifies K2 1 (accepts (minus 9) (el 2))
    ∷ ends_at K2 1 (el 5 ∷ [])
    ∷ proves K3 2 (summed 2 (el 0) (el 1))
    ∷ record { Answers = List ℕ; asked = bytes K3 2; expected = layout false (encoded K3·proof) }
    ∷ verifies K3 2 (accepts (minus 25) (el 1))
    ∷ ends_at K3 2 (el 4 ∷ el 3 ∷ [])
    ∷ proves K4 1 (summed 1 (el 0) (el 0))
    ∷ verifies K4 1 (accepts (el 0) (el 0))
    ∷ verifies_live K2 1 (accepts (minus 9) (el 2))
    ∷ verifies_live K4 1 (Err ZeroRoot)
    ∷ proves (one_row true (el 1)) 0 (Err NonZeroRootSum)
    ∷ proves (one_row false (el 1)) 0 (Err SingleRow)
    ∷ proves (one_row true (el 0)) 0 (Err SingleRow)
    ∷ proves (K6 true) 1 (Err NonZeroRootSum)
    ∷ proves (K6 false) 1 (summed 1 (el 2) (el 1))
    ∷ verifies (K6 false) 1 (Err (ZeroCheckFailed (enc (el 2))))
    ∷ proves (live (el 1)) 1 (Err (ZeroDenominator 0))
    ∷ proves (live (el 0)) 1 (Err (ZeroDenominator 0))
    ∷ equals (E.mul x² x²) (el 11)
    ∷ equals (E.mul x³ x³) (ext 0 0 11 0)
    ∷ equals (Interpolate.cubic Extension (el 0) (el 1) (el 8) (el 27) (el 4)) (el 64)
    ∷ record { Answers = Result Claims Refusal; asked = (Verifier.verified (Verifier.asked K10 1 in_sandbox (words_of_point (el 5 ∷ []))) (room_again 1)).answer; expected = Err (RootConsistencyCheckFailed (enc (el 5)) (enc (el 4))) }
    ∷ []
