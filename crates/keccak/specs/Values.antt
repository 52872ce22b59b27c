-- So many values of a function, from a place on.
-- Assumes nothing.
use Rattle.std.specs.Prelude.{List, [], ◌∷◌, ℕ, zero, suc}

-- f j, f (j + 1), .., n of them
abbrev pub values : (ℕ → ℕ) → ℕ → ℕ → List ℕ
values f j zero = []
values f j (suc n) = f j ∷ values f (suc j) n
