-- The rounds of so many rows, and the rooms of log and workspace for every number of rounds, 0 among them.
-- Assumes nothing.
use Rattle.std.specs.Prelude.{Bool, cond, ◌||◌, List, ℕ, zero, suc, ◌+◌, ◌*◌, ◌/◌, ◌^◌, eqb, leb, length}
use Rattle.gkr.specs.Sizes.{challenges, log_words, workspace_words}
use Rattle.refusal.specs.Limits.{max_rounds}

-- eight words a row
abbrev pub row_count : List ℕ → ℕ
row_count rows = length rows / 8

-- the least n with count ≤ 2 ^ n, at most the limit
unfoldable pub rounds_from : (left n count : ℕ) → ℕ
rounds_from zero n count = n
rounds_from (suc left) n count = cond (leb count (2 ^ n)) n (rounds_from left (suc n) count)

abbrev pub rounds_of : ℕ → ℕ
rounds_of count = rounds_from max_rounds 0 count

-- 0 or a power of two
unfoldable pub is_size : ℕ → Bool
is_size count = eqb count 0 || eqb count (2 ^ rounds_of count)

-- the words of challenges that n rounds take from those lent: none where they are drawn
abbrev pub needed_words : (drawn : Bool) (n : ℕ) → ℕ
needed_words drawn n = cond drawn 0 (4 * challenges n)

-- 0 or 1 row takes no rounds, and needs no log and no workspace; a proof that binds its size logs n first
abbrev pub log_room : (asserted sized : Bool) (n : ℕ) → ℕ
log_room asserted sized zero = 0
log_room asserted sized (suc m) = cond sized 4 0 + log_words asserted (suc m)

abbrev pub work_room : (n : ℕ) → ℕ
work_room zero = 0
work_room (suc m) = workspace_words (suc m)
