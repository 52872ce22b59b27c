-- The permutation, over and over, and words drawn one after the other.
-- Assumes nothing.
use Rattle.std.specs.Prelude.{List, ℕ, zero, suc, ◌+◌, ◌%◌, take}
use Rattle.field.specs.Base.{P}
use Rattle.keccak.specs.Keccak.{keccak}
use Rattle.shake.specs.Drawn.{drawn}

unfoldable pub times : ℕ → List ℕ → List ℕ
times zero a = a
times (suc n) a = keccak (times n a)

-- the sum of the words drawn from a label and the first 0, 1, .. of the words
unfoldable pub draws : List ℕ → List ℕ → ℕ → ℕ
draws label ws zero = 0
draws label ws (suc n) = (draws label ws n + drawn label (take n ws)) % P
