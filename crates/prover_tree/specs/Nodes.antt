-- A workspace of cells as nodes of the fraction tree, and what the passes over it leave: the area that is written, and the cells that are kept.
-- Assumes nothing.
use Rattle.std.specs.Prelude.{◌≡◌, List, ℕ, ◌+◌, ◌*◌, ◌^◌, ◌<◌, ◌≤◌}
use Rattle.field.specs.Ext as E
use Rattle.field.specs.ExtRing.{ExtRing}
use Rattle.field.specs.Cells.{cell, Clean}
use Rattle.gkr.specs.Run.{Frac}
use Rattle.gkr.specs.Tree as Tree

-- node k is the cells 2k and 2k + 1; row i of the rows is node i of their words
abbrev pub node : List ℕ → ℕ → Frac E.Ext
node ws k = record { p = cell ws (2 * k); q = cell ws (2 * k + 1) }

-- x is put into node k
pub record StoredNode (ws ws' : List ℕ) (k : ℕ) (x : Frac E.Ext) : Type 0 where
  pub clean : Clean ws'
  pub here : node ws' k ≡ x
  pub rest : (j : ℕ) → (j ≡ 2 * k → ⊥) → (j ≡ 2 * k + 1 → ⊥) → cell ws' j ≡ cell ws j

-- the n cells from `at` on hold t, and all other cells are as before
pub record Filled (ws ws' : List ℕ) (at n : ℕ) (t : ℕ → E.Ext) : Type 0 where
  pub clean : Clean ws'
  pub filled : (i : ℕ) → i < n → cell ws' (at + i) ≡ t i
  pub below : (j : ℕ) → j < at → cell ws' j ≡ cell ws j
  pub above : (j : ℕ) → at + n ≤ j → cell ws' j ≡ cell ws j

-- the nodes from `from` to size - 1 are the sums of their children, and the nodes from size on are as before
pub record Summed (ws ws' : List ℕ) (from size : ℕ) : Type 0 where
  pub clean : Clean ws'
  pub inner : (k : ℕ) → from ≤ k → k < size → node ws' k ≡ Tree.compute_recursive_relations ExtRing (Tree.children ExtRing (node ws') k)
  pub above : (j : ℕ) → 2 * size ≤ j → cell ws' j ≡ cell ws j

-- the tree over size = 2 ^ n rows: node 2 ^ d + i is the model's node i at height n - d
pub record Built (rows ws ws' : List ℕ) (size : ℕ) : Type 0 where
  pub clean : Clean ws'
  pub nodes : (n h d i : ℕ) → size ≡ 2 ^ n → d + h ≡ n → i < 2 ^ d → node ws' (2 ^ d + i) ≡ Tree.tree ExtRing (node rows) h i
  pub above : (j : ℕ) → 4 * size ≤ j → cell ws' j ≡ cell ws j
