-- The number of variables of a table.
-- Assumes nothing.
use Rattle.std.specs.Prelude.{cond, ℕ, zero, suc, ◌^◌, eqb}
use Rattle.refusal.specs.Limits.{max_rounds}

-- the k of at most `limit` for which n is 2 ^ k; 0 where there is none
unfoldable pub exponent : (limit n : ℕ) → ℕ
exponent zero n = 0
exponent (suc k) n = cond (eqb n (2 ^ suc k)) (suc k) (exponent k n)

-- the number of variables of a table of n entries
abbrev pub variables_of : ℕ → ℕ
variables_of n = exponent max_rounds n
