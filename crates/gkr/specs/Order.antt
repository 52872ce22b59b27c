-- The order of the verifier's checks, pinned by computed cases: which number answers where two would, and the log that is left.
-- Assumes nothing.
use Rattle.std.specs.Prelude.{◌≡◌, refl, [], ◌∷◌, ◌++◌}
use Rattle.field.specs.ExtRing.{arithmetic}
use Rattle.field.specs.Extension.{Extension}
use Rattle.gkr.specs.Compute.{model, el, minus, claims, cubic}
use Rattle.gkr.specs.Transcripts.{observed, sampled}
use Rattle.gkr.specs.Pins.{five, opposites·proof, ones·proof, four·S, four·proof, four·begun, four·log}
use Rattle.gkr.specs.Gkr
use Rattle.gkr.specs.Gkr.{zero_rounds, layer_count, poly_count, zero_check, subround_count, layer_check}

-- no rounds: 10, whatever the proof
zero_first : Gkr.verify_gkr Extension five 0 opposites·proof [] ≡ zero_rounds
unfolding model
zero_first = refl

-- both counts wrong: 14
layers_first : Gkr.verify_gkr Extension five 3 four·proof [] ≡ layer_count 3 2
unfolding model
layers_first = refl

layers_empty : Gkr.verify_gkr Extension five 2 (record { q0 = el 1; claims = []; polys = [] }) [] ≡ layer_count 2 0
unfolding model
layers_empty = refl

-- the second count and the root wrong: 15
polys_second : Gkr.verify_gkr Extension five 1 (record { q0 = el 5; claims = ones·proof.claims; polys = four·proof.polys }) [] ≡ poly_count 0 1
unfolding model
polys_second = refl

-- the numerator and q0 wrong: 16
numerator_first : Gkr.verify_gkr Extension five 1 (record { q0 = el 5; claims = ones·proof.claims; polys = [] }) []
    ≡ zero_check (el 2) (observed (el 1) ∷ observed (el 1) ∷ observed (el 1) ∷ observed (el 1) ∷ observed (el 5) ∷ [])
unfolding model arithmetic
numerator_first = refl

-- the numerator and a sub-round count wrong: 16, and nothing is sampled
root_before_subrounds : Gkr.verify_gkr Extension four·S 2 (record { q0 = el 1; claims = ones·proof.claims ++ ones·proof.claims; polys = [] ∷ [] }) []
    ≡ zero_check (el 2) (observed (el 1) ∷ observed (el 1) ∷ observed (el 1) ∷ observed (el 1) ∷ observed (el 1) ∷ [])
unfolding model arithmetic
root_before_subrounds = refl

-- no sub-round, or one too many: 18 after lambda, with the log so far, and no message is observed
too_few : Gkr.verify_gkr Extension four·S 2 (record { q0 = el 1; claims = four·proof.claims; polys = [] ∷ [] }) [] ≡ subround_count 1 1 0 four·begun
unfolding model arithmetic
too_few = refl

too_many : Gkr.verify_gkr Extension four·S 2 (record { q0 = el 1; claims = four·proof.claims; polys = (cubic (el 0) (el 0) (el 0) ∷ cubic (el 0) (el 0) (el 0) ∷ []) ∷ [] }) []
    ≡ subround_count 1 1 2 four·begun
unfolding model arithmetic
too_many = refl

-- three rounds, layer 1 wrong and layer 2 without its sub-rounds: 19 of round 1, after the claims of layer 1
layer_before_subrounds : Gkr.verify_gkr Extension four·S 3 (record {
  q0 = el 1;
  claims = claims (el 3) (el 1) (minus 3) (el 1) ∷ claims (el 0) (el 0) (el 0) (el 0) ∷ claims (el 0) (el 0) (el 0) (el 0) ∷ [];
  polys = (cubic (minus 4) (minus 40) (minus 112) ∷ []) ∷ [] ∷ [];
}) []
    ≡ layer_check 1 (el 0) (minus 112)
    (observed (el 0) ∷ observed (el 0) ∷ observed (el 0) ∷ observed (el 0) ∷ sampled (el 3) ∷ observed (minus 112) ∷ observed (minus 40) ∷ observed (minus 4) ∷ four·begun)
unfolding model arithmetic
layer_before_subrounds = refl

-- the same with layer 1 right: 18 of round 2, after its lambda
subrounds_later : Gkr.verify_gkr Extension four·S 3 (record {
  q0 = el 1;
  claims = claims (el 3) (el 1) (minus 3) (el 1) ∷ claims (minus 5) (el 1) (minus 10) (el 1) ∷ claims (el 0) (el 0) (el 0) (el 0) ∷ [];
  polys = (cubic (minus 4) (minus 40) (minus 112) ∷ []) ∷ [] ∷ [];
}) []
    ≡ subround_count 2 2 0
    (sampled (el 0) ∷ four·log)
unfolding model arithmetic
subrounds_later = refl
