-- What layers and runs cost, in observations and challenges; the lengths of a proof's polynomial entries, and their bytes.
-- Assumes nothing.
use mathlib.Core.List.{List, [], ◌∷◌}
use Prim.Native.Nat.{ℕ, zero, suc, ◌+◌, ◌*◌}

-- what h layers cost, from a point of length r: an observation costs o, a challenge d
unfoldable pub layers_cost : (o d h r : ℕ) → ℕ
layers_cost o d zero r = 0
layers_cost o d (suc h) r = (2 * d + 4 * o + r * (3 * o + d)) + layers_cost o d h (suc r)

-- what a run over suc m rounds costs, from the root's denominator on
unfoldable pub run_cost : (o d m : ℕ) → ℕ
run_cost o d m = (5 * o + d) + layers_cost o d m 1

-- r sub-rounds in the first of h layers, one more in each after it
unfoldable pub lengths : (h r : ℕ) → List ℕ
lengths zero r = []
lengths (suc h) r = r ∷ lengths h (suc r)

-- the bytes of polynomial entries of these lengths: a byte each, and 48 for each sub-round
unfoldable pub entry_bytes : List ℕ → ℕ
entry_bytes [] = 0
entry_bytes (r ∷ rs) = 1 + 48 * r + entry_bytes rs
