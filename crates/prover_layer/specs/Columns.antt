-- A layer's columns in the workspace, the claims on pairs of nodes from node b on, and what weighing them leaves.
-- Assumes nothing.
use Rattle.std.specs.Prelude.{◌≡◌, List, ℕ, ◌+◌, ◌*◌, ◌<◌, ◌≤◌}
use Rattle.field.specs.Ext as E
use Rattle.field.specs.ExtRing.{ExtRing}
use Rattle.field.specs.Cells.{cell, Clean}
use Rattle.multilinear.specs.RoundSum.{Claims}
use Rattle.gkr.specs.Tree as Tree
use Rattle.step.specs.Values.{weigh}
use Rattle.prover_tree.specs.Nodes.{node}

-- entry y: the nodes b + 2y and b + 2y + 1
abbrev pub claims : List ℕ → ℕ → ℕ → Claims E.Ext
claims ws b = Tree.children ExtRing (λ i. node ws (b + i))

-- the claims of the first n entries are weighed by lambda, and all other cells are as before
pub record Weighed (ws ws' : List ℕ) (b n : ℕ) (lambda : E.Ext) : Type 0 where
  pub clean : Clean ws'
  pub nodes : (y : ℕ) → y < n → claims ws' b y ≡ weigh lambda (claims ws b y)
  pub below : (j : ℕ) → j < 2 * b → cell ws' j ≡ cell ws j
  pub above : (j : ℕ) → 2 * b + 4 * n ≤ j → cell ws' j ≡ cell ws j
