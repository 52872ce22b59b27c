-- A list of words as cells of elements: cell i is the words 4i to 4i + 3.
-- Assumes nothing.
use Rattle.std.specs.Prelude.{◌≡◌, List, [], ◌∷◌, ℕ, zero, suc, ◌+◌, ◌*◌, ◌<◌, get_or}
use Rattle.std.proofs.lemmas.List.Edits.{sets}
use Rattle.field.specs.Base.{P}
use Rattle.field.specs.Ext as E
use Rattle.field.specs.Element.{words}

unfoldable pub cell : List ℕ → ℕ → E.Ext
cell ws i = E.ext (get_or ws (4 * i) 0) (get_or ws (4 * i + 1) 0) (get_or ws (4 * i + 2) 0) (get_or ws (4 * i + 3) 0)

-- the n cells from `at` on, as a point
abbrev pub cells : List ℕ → ℕ → ℕ → List E.Ext
cells ws at zero = []
cells ws at (suc n) = cell ws at ∷ cells ws (suc at) n

-- every word is canonical
pub record Clean (ws : List ℕ) : Type 0 where
  pub below : (k : ℕ) → get_or ws k 0 < P

-- what a store of x into cell i makes of ws
pub record Stored (ws ws' : List ℕ) (i : ℕ) (x : E.Ext) : Type 0 where
  pub exact : ws' ≡ sets ws (4 * i) (words x)
  pub clean : Clean ws'
  pub here : cell ws' i ≡ x
  pub rest : (j : ℕ) → (j ≡ i → ⊥) → cell ws' j ≡ cell ws j
