-- Challenges that count: challenge k, from 1, is the element k.
-- Assumes nothing.
use Rattle.std.specs.Prelude.{List, ℕ, zero, suc, ◌+◌, ◌*◌, ◌%◌, set}

-- the first words of the first k elements become 1, 2, .. as far as the prime goes, and then 1 again
unfoldable pub counted_up : ℕ → List ℕ → List ℕ
counted_up zero ws = ws
counted_up (suc k) ws = set (counted_up k ws) (4 * k) (k % 2013265920 + 1)
