-- The run over 2 ^ suc m rows over lent buffers, as the model runs it.
-- Assumes nothing.
use Rattle.std.specs.Prelude.{◌≡◌, Bool, true, false, List, ℕ, suc, ◌-◌, ◌^◌}
use Rattle.field.specs.Ext as E
use Rattle.field.specs.ExtRing.{ExtRing}
use Rattle.field.specs.Extension.{Extension}
use Rattle.field.specs.Cells.{Clean, cells}
use Rattle.gkr.specs.Run.{Frac}
use Rattle.gkr.specs.Transcripts.{Words, Source}
use Rattle.gkr.specs.Tree as Tree
use Rattle.gkr.specs.Gkr as Gkr
use Rattle.transcript.specs.Log.{Drawing, Observing, State, Steps, log_of}
use Rattle.step.specs.declared.Frac.{Frac as FracW}
use Rattle.step.specs.Values.{IsFrac}
use Rattle.prover_tree.specs.Nodes.{node}
use Rattle.prover_rounds.specs.Layers.{Levels, log_up_to, used_up_to}

-- the tree over the rows stands in the workspace, and its root is told
pub record Planted (rows ws' : List ℕ) (size : ℕ) (root : FracW) : Type 0 where
  pub clean : Clean ws'
  pub levels : (m : ℕ) → size ≡ 2 ^ suc m → Levels (node rows) ws' (suc m) 0
  pub sum : (m : ℕ) → size ≡ 2 ^ suc m → IsFrac root (Tree.tree ExtRing (node rows) (suc m) 0)
  pub known : IsFrac root (node ws' 1)

-- a log before root q: root p is in it where zero is not asserted
abbrev pub begun : (asserted : Bool) (p : E.Ext) (t : Words) → Words
begun true p t = t
begun false p t = Observing.observe p t

-- the model's point and log after a run over the rows f
pub record RunOf (f : ℕ → Frac E.Ext) (pt' : List ℕ) (s s' : State) (ch : Source E.Ext) (m : ℕ) : Type 0 where
  pub point : cells pt' 0 (suc m) ≡ (Gkr.run Extension (Drawing ch) m f (log_of s)).point
  pub steps : Steps s s' (log_up_to (suc m)) (used_up_to (suc m) - 1) (Gkr.run Extension (Drawing ch) m f (log_of s)).log
