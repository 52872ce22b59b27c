-- Rooms in range.
-- Assumes nothing.
use mathlib.Core.Path.{◌≡◌}
use Prim.Native.Nat.{ℕ, ◌≤◌}
use borrow.Author.Tests.{le-leb}
use Rattle.refusal.specs.Limits.{max_rounds}
use Rattle.accudrina.specs.Rooms.{taken}

pub within : (n room : ℕ) → n ≤ max_rounds → taken n room ≡ room
within n room h = rw (le-leb n max_rounds h)
