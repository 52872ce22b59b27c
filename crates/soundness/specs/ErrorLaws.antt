-- In closed form: (3n² + n)/2 - 1 errors, and as many places as a run draws challenges.
-- Assumes nothing.
use Rattle.std.specs.Prelude.{ℕ, zero, suc, ◌+◌, ◌*◌, ◌-◌, ◌/◌, ◌≡◌, List, [], ◌∷◌, ◌++◌, length, replicate}
use Rattle.std.proofs.Common.{◌∙◌, ap, arith, length-append}
use Rattle.std.proofs.lemmas.List.{length-replicate}
use Rattle.gkr.specs.Sizes.{challenges}
use Rattle.soundness.specs.Errors.{layer_places, places, added, errors}

added_append : (a b : List ℕ) → added (a ++ b) ≡ added a + added b
unfolding added
added_append [] b = omega arith
added_append (k ∷ a) b = omega (arith, added_append a b)

added_threes : (r : ℕ) → added (replicate r 3) ≡ 3 * r
unfolding added
added_threes zero = omega arith
added_threes (suc r) = omega (arith, added_threes r)

layer_errors : (h r : ℕ) → 2 * added (layer_places h r) ≡ h + 6 * (r * h) + 3 * (h * h)
unfolding layer_places added
layer_errors zero r = omega arith
layer_errors (suc h) r = omega (arith, added_append (replicate r 3) (1 ∷ layer_places h (suc r)), added_threes r, layer_errors h (suc r))

layer_draws : (h r : ℕ) → 2 * length (layer_places h r) ≡ 3 * h + 2 * (r * h) + h * h
unfolding layer_places
layer_draws zero r = omega arith
layer_draws (suc h) r = omega (arith, length-append (replicate r 3) (1 ∷ layer_places h (suc r)), length-replicate {A = ℕ} r 3, layer_draws h (suc r))

-- THE ERRORS: twice as many, and 2, are 3n² + n
pub errors_is : (m : ℕ) → let n = suc m in 2 * errors m + 2 ≡ 3 * (n * n) + n
unfolding places added
errors_is m = omega (arith, layer_errors m 1)

-- THE PLACES are those of all challenges
pub places_length : (m : ℕ) → length (places m) ≡ challenges (suc m)
unfolding places
places_length m = omega (arith, layer_draws m 1) ∙ ap (λ k. 2 * suc m - 1 + suc m * k / 2) less
  where
    less : m ≡ suc m - 1
    less = omega arith
