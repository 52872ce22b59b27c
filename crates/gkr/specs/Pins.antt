-- Small runs, computed by the model over the extension. They stand here so that a wrong line of the model is refused in this crate, at once;
-- the table of document 01's worked examples is agreement/specs/KTable, over what the contracts cite.
-- Assumes nothing.
use Rattle.std.specs.Prelude.{◌≡◌, refl, true, false, List, [], ◌∷◌, ℕ}
use Rattle.field.specs.Ext.{Ext}
use Rattle.field.specs.ExtRing.{arithmetic}
use Rattle.field.specs.Element.{words}
use Rattle.field.specs.Extension.{Extension}
use Rattle.gkr.specs.Run.{Transcript, Frac, Proof}
use Rattle.gkr.specs.Compute.{model, el, minus, frac, claims, cubic, rows}
use Rattle.gkr.specs.Transcripts.{Event, observed, sampled, supplied, empty, drawing}
use Rattle.gkr.specs.Gkr
use Rattle.gkr.specs.Gkr.{done, non_zero_root_sum, accepted, zero_check, root_check}

-- challenge 5
abbrev pub five : Transcript Ext
five = supplied (el 5 ∷ []) (el 0)

-- two rows
abbrev pub opposites : ℕ → Frac Ext
opposites = rows (frac (el 1) (el 2) ∷ frac (minus 1) (el 2) ∷ [])

abbrev pub opposites·proof : Proof Ext
opposites·proof = record { q0 = el 4; claims = claims (el 1) (el 2) (minus 1) (el 2) ∷ []; polys = [] }

-- root q, then the claims, then the challenge; root p is not observed
abbrev pub opposites·log : List (Event Ext)
opposites·log = sampled (el 5) ∷ observed (el 2) ∷ observed (minus 1) ∷ observed (el 2) ∷ observed (el 1) ∷ observed (el 4) ∷ []

pub opposites_run : Gkr.fractional_sumcheck Extension five true 0 opposites [] ≡ done (record { sum = frac (el 0) (el 4); proof = opposites·proof; point = el 5 ∷ []; log = opposites·log })
unfolding model arithmetic
opposites_run = refl

pub opposites_run_verdict : Gkr.verify_gkr Extension five 1 opposites·proof [] ≡ accepted (frac (minus 9) (el 2)) (el 5 ∷ []) opposites·log
unfolding model arithmetic
opposites_run_verdict = refl

-- the same log in words
abbrev pub fives : Transcript Ext
fives = drawing words (λ _. el 5)

pub opposites_run_words : (Gkr.run Extension fives 0 opposites empty).log
    ≡ record { log = 4 ∷ 0 ∷ 0 ∷ 0 ∷ 1 ∷ 0 ∷ 0 ∷ 0 ∷ 2 ∷ 0 ∷ 0 ∷ 0 ∷ 2013265920 ∷ 0 ∷ 0 ∷ 0 ∷ 2 ∷ 0 ∷ 0 ∷ 0 ∷ 2147483653 ∷ 2147483648 ∷ 2147483648 ∷ 2147483648 ∷ []; used = 1 }
unfolding model arithmetic
opposites_run_words = refl

abbrev pub zeros : ℕ → Frac Ext
zeros = rows (frac (el 0) (el 0) ∷ frac (el 0) (el 0) ∷ [])

pub zeros_run : (Gkr.run Extension five 0 zeros []).sum ≡ frac (el 0) (el 0)
unfolding model arithmetic
zeros_run = refl

pub zeros_run_verdict : Gkr.verify_gkr Extension five 1 (Gkr.run Extension five 0 zeros []).proof []
    ≡ accepted (frac (el 0) (el 0)) (el 5 ∷ []) (Gkr.run Extension five 0 zeros []).log
unfolding model arithmetic
zeros_run_verdict = refl

abbrev pub ones : ℕ → Frac Ext
ones = rows (frac (el 1) (el 1) ∷ frac (el 1) (el 1) ∷ [])

abbrev pub ones·proof : Proof Ext
ones·proof = record { q0 = el 1; claims = claims (el 1) (el 1) (el 1) (el 1) ∷ []; polys = [] }

pub ones_run : Gkr.fractional_sumcheck Extension five true 0 ones [] ≡ non_zero_root_sum
unfolding model arithmetic
ones_run = refl

-- not asserted: root p is observed first
pub ones_run_sum : Gkr.fractional_sumcheck Extension five false 0 ones []
    ≡ done (record { sum = frac (el 2) (el 1); proof = ones·proof; point = el 5 ∷ []; log = sampled (el 5) ∷ observed (el 1) ∷ observed (el 1) ∷ observed (el 1) ∷ observed (el 1) ∷ observed (el 1) ∷ observed (el 2) ∷ [] })
unfolding model arithmetic
ones_run_sum = refl

pub ones_run_verdict : Gkr.verify_gkr Extension five 1 ones·proof []
    ≡ zero_check (el 2) (observed (el 1) ∷ observed (el 1) ∷ observed (el 1) ∷ observed (el 1) ∷ observed (el 1) ∷ [])
unfolding model arithmetic
ones_run_verdict = refl

-- the proof of the opposites with another q0
pub q0_off : Gkr.verify_gkr Extension five 1 (record { q0 = el 5; claims = opposites·proof.claims; polys = [] }) []
    ≡ root_check (el 5) (el 4) (observed (el 2) ∷ observed (minus 1) ∷ observed (el 2) ∷ observed (el 1) ∷ observed (el 5) ∷ [])
unfolding model arithmetic
q0_off = refl

-- four rows, challenges 2, 1, 3, 4
abbrev pub four : ℕ → Frac Ext
four = rows (frac (el 1) (el 1) ∷ frac (el 2) (el 1) ∷ frac (minus 1) (el 1) ∷ frac (minus 2) (el 1) ∷ [])

abbrev pub four·S : Transcript Ext
four·S = supplied (el 2 ∷ el 1 ∷ el 3 ∷ el 4 ∷ []) (el 0)

abbrev pub four·proof : Proof Ext
four·proof = record {
  q0 = el 1;
  claims = claims (el 3) (el 1) (minus 3) (el 1) ∷ claims (minus 5) (el 1) (minus 10) (el 1) ∷ [];
  polys = (cubic (minus 4) (minus 40) (minus 112) ∷ []) ∷ [];
}

-- the log after lambda = 1, and all of it
abbrev pub four·begun : List (Event Ext)
four·begun = sampled (el 1) ∷ sampled (el 2) ∷ observed (el 1) ∷ observed (minus 3) ∷ observed (el 1) ∷ observed (el 3) ∷ observed (el 1) ∷ []

abbrev pub four·log : List (Event Ext)
four·log = sampled (el 4) ∷ observed (el 1) ∷ observed (minus 10) ∷ observed (el 1) ∷ observed (minus 5) ∷ sampled (el 3) ∷ observed (minus 112) ∷ observed (minus 40) ∷ observed (minus 4) ∷ four·begun

pub four_run : Gkr.fractional_sumcheck Extension four·S true 1 four [] ≡ done (record { sum = frac (el 0) (el 1); proof = four·proof; point = el 4 ∷ el 3 ∷ []; log = four·log })
unfolding model arithmetic
four_run = refl

pub four_run_verdict : Gkr.verify_gkr Extension four·S 2 four·proof [] ≡ accepted (frac (minus 25) (el 1)) (el 4 ∷ el 3 ∷ []) four·log
unfolding model arithmetic
four_run_verdict = refl
