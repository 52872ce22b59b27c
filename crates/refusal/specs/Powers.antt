-- Which numbers are powers of two.
-- Assumes nothing.
use Rattle.std.specs.Prelude.{Bool, true, false, cond, ℕ, zero, suc, ◌^◌, eqb}

-- one of 2 ^ 0, .., 2 ^ (m - 1) is n
unfoldable pub any_power : ℕ → ℕ → Bool
any_power zero n = false
any_power (suc k) n = cond (eqb (2 ^ k) n) true (any_power k n)

-- 2 ^ k is above k, so that k below n are all
abbrev pub power_of_two : ℕ → Bool
power_of_two n = any_power n n
