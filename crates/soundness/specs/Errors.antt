-- How many challenges can be bad in a run of n = m + 1 rounds: place by place, and in all.
-- Assumes nothing.
use Rattle.std.specs.Prelude.{ℕ, zero, suc, ◌+◌, List, [], ◌∷◌, ◌++◌, replicate}

-- h layers, the first of them with r sub-rounds: 1 for lambda, 3 for each rho, 1 for mu
unfoldable pub layer_places : (h r : ℕ) → List ℕ
layer_places zero r = []
layer_places (suc h) r = 1 ∷ (replicate r 3 ++ (1 ∷ layer_places h (suc r)))

-- the mu of layer 0, then the layers
unfoldable pub places : (m : ℕ) → List ℕ
places m = 1 ∷ layer_places m 1

unfoldable pub added : List ℕ → ℕ
added [] = 0
added (k ∷ ks) = k + added ks

abbrev pub errors : (m : ℕ) → ℕ
errors m = added (places m)
