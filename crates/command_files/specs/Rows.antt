-- Rows that were read: the first n words of a buffer.
-- Assumes nothing.
use Rattle.std.specs.Prelude.{List, ℕ, ◌≤◌, take}
use Rattle.io.specs.Counts.{IsPrefixLen}
use Rattle.field.specs.Cells.{Clean}

pub record Rows (n : ℕ) (ws : List ℕ) : Type 0 where
  pub counts : IsPrefixLen n ws
  pub most : n ≤ 8192
  pub clean : Clean (take n ws)
