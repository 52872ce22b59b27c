-- An old point in cells, as far as a new one has not overwritten it.
-- Assumes nothing.
use Rattle.std.specs.Prelude.{List, [], ◌∷◌, ℕ, zero, suc}
use Rattle.field.specs.Ext as E
use Rattle.field.specs.Cells.{cells}

-- the last k coordinates of an old point: x, and those that stand after cell i
abbrev pub ahead : E.Ext → List ℕ → ℕ → ℕ → List E.Ext
ahead x ws i zero = []
ahead x ws i (suc k) = x ∷ cells ws (suc i) k
