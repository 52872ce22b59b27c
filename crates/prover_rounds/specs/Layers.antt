-- A round, and the rounds in turn, over lent buffers, as the model sends them.
-- Assumes nothing.
use Rattle.std.specs.Prelude.{◌≡◌, List, ℕ, zero, suc, ◌+◌, ◌*◌, ◌-◌, ◌^◌, ◌<◌, ◌≤◌}
use Rattle.field.specs.Ext as E
use Rattle.field.specs.ExtRing.{ExtRing}
use Rattle.field.specs.Extension.{Extension}
use Rattle.field.specs.Cells.{cell, Clean, Stored, cells}
use Rattle.multilinear.specs.Table as Table
use Rattle.multilinear.specs.RoundSum as RoundSum
use Rattle.multilinear.specs.RoundSum.{Claims}
use Rattle.gkr.specs.Run.{Frac}
use Rattle.gkr.specs.Transcripts.{Words, Source}
use Rattle.gkr.specs.Tree as Tree
use Rattle.gkr.specs.Sumcheck as Sumcheck
use Rattle.gkr.specs.Gkr as Gkr
use Rattle.transcript.specs.Log.{Drawing, Observing, State, Steps, log_of}
use Rattle.prover_tree.specs.Nodes.{node}
use Rattle.prover_layer.specs.Columns.{claims}

-- a fraction in the log
abbrev pub observed_frac : Frac E.Ext → Words → Words
observed_frac f t = Observing.observe f.q (Observing.observe f.p t)

abbrev pub observed_claims : Claims E.Ext → Words → Words
observed_claims c t = Gkr.observe_layer_claims Extension Observing c t

-- the end of a layer: the claims in the log, the challenge in the log and in cell 0 of the point
pub record RoundClosed (ws pt pt' : List ℕ) (s s' : State) (ch : Source E.Ext) (b : ℕ) : Type 0 where
  pub steps : Steps s s' 20 1 ((Drawing ch).drawn (observed_claims (claims ws b 0) (log_of s)))
  pub stored : Stored pt pt' 0 (ch (observed_claims (claims ws b 0) (log_of s)))

-- what a layer of 2^k entries sends, from the old point and the claims on the nodes from b on
abbrev pub layer_sends : (ws pt : List ℕ) (ch : Source E.Ext) (b k : ℕ) (s : State) → Sumcheck.Sent Extension (Drawing ch)
layer_sends ws pt ch b k s = Sumcheck.send Extension (Drawing ch) k (ch (log_of s)) (Table.weight ExtRing (cells pt 0 k)) (claims ws b) ((Drawing ch).drawn (log_of s))

abbrev pub layer_told : (ws pt : List ℕ) (ch : Source E.Ext) (b k : ℕ) (s : State) → Words
layer_told ws pt ch b k s = let P = layer_sends ws pt ch b k s in Gkr.observe_layer_claims Extension (Drawing ch) P.last P.log

-- the claims of the layer before, on nodes size and size + 1, are the values at the point, but for its first coordinate, of the sums of the claims on the nodes from 2 * size on
abbrev pub Opened : (ws pt : List ℕ) (k size : ℕ) → Type 0
Opened ws pt k size = claims ws size 0 ≡ RoundSum.values ExtRing (Tree.children ExtRing (λ i. Tree.compute_recursive_relations ExtRing (claims ws (2 * size) i))) (cells pt 1 (k - 1))

-- the model's mu, rhos, last claims and log
pub record LayerSent (ws ws' pt pt' : List ℕ) (s s' : State) (ch : Source E.Ext) (k size : ℕ) : Type 0 where
  pub mu : cell pt' 0 ≡ ch (layer_told ws pt ch (2 * size) k s)
  pub point : cells pt' 1 k ≡ (layer_sends ws pt ch (2 * size) k s).point
  pub last : claims ws' (2 * size) 0 ≡ (layer_sends ws pt ch (2 * size) k s).last
  pub log : log_of s' ≡ (Drawing ch).drawn (layer_told ws pt ch (2 * size) k s)

pub record OneLayer (ws ws' pt pt' : List ℕ) (s s' : State) (ch : Source E.Ext) (at k size : ℕ) : Type 0 where
  pub clean : Clean ws'
  pub points : Clean pt'
  pub steps : Steps s s' (16 * k + 24) (k + 2) (log_of s')
  pub kept : (i : ℕ) → 8 * size ≤ i → i < at → cell ws' i ≡ cell ws i
  pub sent : Opened ws pt k size → LayerSent ws ws' pt pt' s s' ch k size

-- the levels below level r are the model's tree over the rows f
pub record Levels (f : ℕ → Frac E.Ext) (ws : List ℕ) (n r : ℕ) : Type 0 where
  pub holds : (d h i : ℕ) → d + h ≡ n → r < d → i < 2 ^ d → node ws (2 ^ d + i) ≡ Tree.tree ExtRing f h i

-- words of the log and challenges for the layers below r (layer 0 takes a challenge less)
unfoldable pub log_up_to : ℕ → ℕ
log_up_to zero = 0
log_up_to (suc r) = log_up_to r + (16 * r + 24)

unfoldable pub used_up_to : ℕ → ℕ
used_up_to zero = 0
used_up_to (suc r) = used_up_to r + (r + 2)

-- the model from a state on: h layers, from the point of length r
abbrev pub runs : (f : ℕ → Frac E.Ext) (pt : List ℕ) (ch : Source E.Ext) (h r : ℕ) (s : State) → Gkr.Sent Extension (Drawing ch)
runs f pt ch h r s = Gkr.send Extension (Drawing ch) f h (cells pt 0 r) (log_of s)

-- After the layers below r, with h still to come, the model goes on from here to where it goes from layer 1.
pub record Running (f : ℕ → Frac E.Ext) (ws pt₀ pt : List ℕ) (s₀ s : State) (ch : Source E.Ext) (n r h g : ℕ) : Type 0 where
  pub levels : Levels f ws n r
  pub before : claims ws (2 ^ r) 0 ≡ RoundSum.values ExtRing (Tree.children ExtRing (Tree.tree ExtRing f h)) (cells pt 1 (r - 1))
  pub point : (runs f pt ch h r s).point ≡ (runs f pt₀ ch g 1 s₀).point
  pub log : (runs f pt ch h r s).log ≡ (runs f pt₀ ch g 1 s₀).log

-- what all layers leave
pub record AllLayers (f : ℕ → Frac E.Ext) (pt pt' : List ℕ) (s s' : State) (ch : Source E.Ext) (n g : ℕ) : Type 0 where
  pub point : cells pt' 0 n ≡ (runs f pt ch g 1 s).point
  pub steps : Steps s s' (log_up_to n - log_up_to 1) (used_up_to n - used_up_to 1) (runs f pt ch g 1 s).log

-- the loop over the layers before layer r
pub record Midway (ws₀ ws pt₀ pt : List ℕ) (s₀ s : State) (ch : Source E.Ext) (n r : ℕ) : Type 0 where
  pub from : 1 ≤ r
  pub upto : r ≤ n
  pub clean : Clean ws
  pub points : Clean pt
  pub steps : Steps s₀ s (log_up_to r - log_up_to 1) (used_up_to r - used_up_to 1) (log_of s)
  pub run : (f : ℕ → Frac E.Ext) (g : ℕ) → n ≡ suc g → Levels f ws₀ n 0 → Running f ws pt₀ pt s₀ s ch n r (n - r) g
