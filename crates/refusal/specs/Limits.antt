-- The limits on sizes, in one place.
-- Assumes nothing.
use Rattle.std.specs.Prelude.{ℕ, ◌^◌}

-- the most rounds, and the most rows
abbrev pub max_rounds : ℕ
max_rounds = 10

abbrev pub max_rows : ℕ
max_rows = 2 ^ max_rounds
