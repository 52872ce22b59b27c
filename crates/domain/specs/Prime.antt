-- Trial division, and how far it goes for 2013265921.
-- Assumes nothing.
use Rattle.std.specs.Prelude.{ℕ, zero, suc, ◌%◌, Bool, true, ◌&&◌, ltb}

-- TRIAL DIVISION

-- no number from 2 to n + 1 divides p
unfoldable pub undivided : (p n : ℕ) → Bool
undivided p zero = true
undivided p (suc n) = ltb 0 (p % suc (suc n)) && undivided p n

-- THE PRIME

-- 2 to 44869 are tried, and 44870 squared is past the prime
abbrev pub tried : ℕ
tried = 44868
