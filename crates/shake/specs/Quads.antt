-- Half a lane: four bytes at once, as the code reads them.
-- Assumes nothing.
use Rattle.std.specs.Prelude.{List, ℕ, ◌+◌, ◌*◌, ◌^◌, get_or}

-- the bytes of p from i on, the first the lowest
unfoldable pub quad_at : List ℕ → ℕ → ℕ
quad_at p i = get_or p i 0 + get_or p (i + 1) 0 * 2 ^ 8 + get_or p (i + 2) 0 * 2 ^ 16 + get_or p (i + 3) 0 * 2 ^ 24
