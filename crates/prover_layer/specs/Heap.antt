-- The heap of eq tables: which cells hold which weights.
-- Assumes nothing.
use Rattle.std.specs.Prelude.{◌≡◌, List, ℕ, ◌+◌, ◌-◌, ◌/◌, ◌%◌, ◌^◌, ◌<◌, ◌≤◌}
use Rattle.field.specs.Ext as E
use Rattle.field.specs.ExtRing.{ExtRing}
use Rattle.field.specs.Cells.{cell, Clean, cells}
use Rattle.multilinear.specs.Table as Table

-- what the cells from `from` on become with one coordinate more, x, that binds the lowest bit
abbrev pub grown : List ℕ → ℕ → E.Ext → ℕ → E.Ext
grown ws from x i = E.mul (Table.bit ExtRing x (i % 2)) (cell ws (from + i / 2))

-- the lowest n levels over the k coordinates of the point: level i is the weights at the last i of them, from cell at + 2^i on
pub record Heaped (ws ws' pt : List ℕ) (at k n : ℕ) : Type 0 where
  pub clean : Clean ws'
  pub level : (i y : ℕ) → i < n → y < 2 ^ i → cell ws' (at + 2 ^ i + y) ≡ Table.weight ExtRing (cells pt (k - i) i) y
  pub below : (j : ℕ) → j ≤ at → cell ws' j ≡ cell ws j
  pub above : (j : ℕ) → at + 2 ^ n ≤ j → cell ws' j ≡ cell ws j
