-- One challenge more is counted.
-- Assumes nothing.
use mathlib.Core.Path.{◌≡◌}
use mathlib.Core.List.{List}
use Prim.Native.Nat.{ℕ, ◌+◌, ◌*◌, ◌%◌}
use native.Mathlib.Numerals.{add-one}
use lib.ListN.{set}
use Rattle.answers.specs.Counting.{counted_up}

pub one_more : (k : ℕ) (ws ws' : List ℕ) → ws' ≡ counted_up k ws → set ws' (4 * k) (k % 2013265920 + 1) ≡ counted_up (k + 1) ws
unfolding counted_up
one_more k ws ws' e = rw (add-one k, e)
