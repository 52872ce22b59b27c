-- The sampled words of a log.
-- Assumes nothing.
use Rattle.std.specs.Prelude.{cond, leb}
use mathlib.Core.List.{List, [], ◌∷◌}
use Prim.Native.Nat.{ℕ, ◌^◌}

-- the words of a log that were sampled: those with the top bit set
unfoldable pub sampled_words : List ℕ → List ℕ
sampled_words [] = []
sampled_words (w ∷ ws) = cond (leb (2 ^ 31) w) (w ∷ sampled_words ws) (sampled_words ws)
