-- The sub-rounds of a round over lent buffers, as the model sends them.
-- Assumes nothing.
use Rattle.std.specs.Prelude.{◌≡◌, List, ◌++◌, ℕ, ◌+◌, ◌-◌, ◌*◌, ◌/◌, ◌^◌, ◌<◌, ◌≤◌}
use Rattle.field.specs.Ext as E
use Rattle.field.specs.ExtRing.{ExtRing}
use Rattle.field.specs.Extension.{Extension}
use Rattle.field.specs.Element.{dec}
use Rattle.field.specs.Cells.{cell, Clean, Stored, cells}
use Rattle.multilinear.specs.Table as Table
use Rattle.multilinear.specs.RoundSum as RoundSum
use Rattle.gkr.specs.Run.{Cubic}
use Rattle.gkr.specs.Transcripts.{Words, Source}
use Rattle.gkr.specs.Sumcheck as Sumcheck
use Rattle.transcript.specs.Log.{Drawing, Observing, State, Steps, log_of}
use Rattle.step.specs.declared.Three.{Three}
use Rattle.step.specs.Values.{two, three}
use Rattle.prover_layer.specs.declared.Turn.{Turn}
use Rattle.prover_layer.specs.Columns.{claims}
use Rattle.prover_layer.specs.Message.{CanonTurn, said}
use Rattle.prover_layer.specs.Passes.{side_sum, lead}

abbrev pub observed_three : Three → Words → Words
observed_three s t = Sumcheck.observe_cubic Extension Observing (record { at1 = dec s.s1; at2 = dec s.s2; at3 = dec s.s3 }) t

-- ONE SUB-ROUND

-- its message, from what it begins with and the workspace
abbrev pub spoken : (ws : List ℕ) (at b half : ℕ) (t : Turn) → Cubic E.Ext
spoken ws at b half t = let v = lead ws at b half in record { at1 = said t v E.one; at2 = said t v two; at3 = said t v three }

abbrev pub told : (ws : List ℕ) (ch : Source E.Ext) (at b half : ℕ) (t : Turn) (s : State) → Words
told ws ch at b half t s = Sumcheck.observe_cubic Extension (Drawing ch) (spoken ws at b half t) (log_of s)

-- the message is in the log, rho in the log and in cell i of the point, and the claims are folded at rho
pub record SubSent (ws ws' pt pt' : List ℕ) (s s' : State) (ch : Source E.Ext) (at b half i : ℕ) (t : Turn) : Type 0 where
  pub steps : Steps s s' 16 1 ((Drawing ch).drawn (told ws ch at b half t s))
  pub stored : Stored pt pt' i (ch (told ws ch at b half t s))
  pub clean : Clean ws'
  pub nodes : (y : ℕ) → y < half → claims ws' b y ≡ RoundSum.folded ExtRing (claims ws b) (ch (told ws ch at b half t s)) y
  pub kept : (j : ℕ) → 2 * b + 8 * half ≤ j → cell ws' j ≡ cell ws j

-- ALL SUB-ROUNDS

-- what the model sends in k sub-rounds, from the column eq, the workspace and the log
abbrev pub sends : (eq : ℕ → E.Ext) (ws : List ℕ) (ch : Source E.Ext) (b k : ℕ) (lambda : E.Ext) (s : State) → Sumcheck.Sent Extension (Drawing ch)
sends eq ws ch b k lambda s = Sumcheck.send Extension (Drawing ch) k lambda eq (claims ws b) (log_of s)

-- eq with the coordinates before j bound: a constant times the weights at the m that are left
abbrev pub eq_from : (t : Turn) (pt : List ℕ) (j m i : ℕ) → E.Ext
eq_from t pt j m i = E.mul (dec t.c) (Table.weight ExtRing (cells pt j m) i)

-- h of the first sub-round at 0 (off 0) or at 1 (off 1)
abbrev pub faced : (ws : List ℕ) (at b off n : ℕ) (lambda : E.Ext) → E.Ext
faced ws at b off n lambda = Table.sum ExtRing n (λ y. E.mul (cell ws (at + y)) (RoundSum.cross ExtRing lambda (claims ws b (2 * y + off))))

-- k sub-rounds can begin with t: the heap of eq tables stands from cell `at` on, and h is right at 0 and 1
pub record Facing (ws pt : List ℕ) (at b k half : ℕ) (lambda : E.Ext) (t : Turn) : Type 0 where
  pub heap : (i y : ℕ) → i < k → y < 2 ^ i → cell ws (at + 2 ^ i + y) ≡ Table.weight ExtRing (cells pt (k - i) i) y
  pub c : dec t.c ≡ E.one
  pub x : dec t.x ≡ cell pt 0
  pub h0 : dec t.h0 ≡ faced ws (at + half) b 0 half lambda
  pub h1 : dec t.h1 ≡ faced ws (at + half) b 1 half lambda

-- after j of the k sub-rounds, with m still to come: what is there and what the model still sends make up what it sends from the start
pub record Told (ws₀ ws pt₀ pt : List ℕ) (s₀ s : State) (ch : Source E.Ext) (at b j m k half : ℕ) (t : Turn) : Type 0 where
  pub x : dec t.x ≡ cell pt₀ j
  pub h0 : dec t.h0 ≡ side_sum ws (at + half) b 0 half
  pub h1 : dec t.h1 ≡ side_sum ws (at + half) b 1 half
  pub point : cells pt 1 j ++ (sends (eq_from t pt₀ j m) ws ch b m E.nil s).point ≡ (sends (Table.weight ExtRing (cells pt₀ 0 k)) ws₀ ch b k E.nil s₀).point
  pub last : (sends (eq_from t pt₀ j m) ws ch b m E.nil s).last ≡ (sends (Table.weight ExtRing (cells pt₀ 0 k)) ws₀ ch b k E.nil s₀).last
  pub log : (sends (eq_from t pt₀ j m) ws ch b m E.nil s).log ≡ (sends (Table.weight ExtRing (cells pt₀ 0 k)) ws₀ ch b k E.nil s₀).log

-- the loop, the levels below and the old point's later coordinates as before
pub record Going (ws₀ ws pt₀ pt : List ℕ) (s₀ s : State) (ch : Source E.Ext) (at b j m k half size : ℕ) (t₀ t : Turn) : Type 0 where
  pub clean : Clean ws
  pub points : Clean pt
  pub canon : CanonTurn t
  pub later : (i : ℕ) → j < i → cell pt i ≡ cell pt₀ i
  pub steps : Steps s₀ s (16 * j) j (log_of s)
  pub kept : (i : ℕ) → 2 * b + 4 * size ≤ i → cell ws i ≡ cell ws₀ i
  pub run : Facing ws₀ pt₀ at b k (size / 2) E.nil t₀ → Told ws₀ ws pt₀ pt s₀ s ch at b j m k half t

-- the model's rhos, last claims and log
pub record Sent (ws ws' pt pt' : List ℕ) (s s' : State) (ch : Source E.Ext) (b k : ℕ) (lambda : E.Ext) : Type 0 where
  pub point : cells pt' 1 k ≡ (sends (Table.weight ExtRing (cells pt 0 k)) ws ch b k lambda s).point
  pub last : claims ws' b 0 ≡ (sends (Table.weight ExtRing (cells pt 0 k)) ws ch b k lambda s).last
  pub log : log_of s' ≡ (sends (Table.weight ExtRing (cells pt 0 k)) ws ch b k lambda s).log

-- all sub-rounds, the levels below as before
pub record SubRounds (ws ws' pt pt' : List ℕ) (s s' : State) (ch : Source E.Ext) (at b k size : ℕ) (lambda : E.Ext) (t : Turn) : Type 0 where
  pub clean : Clean ws'
  pub points : Clean pt'
  pub steps : Steps s s' (16 * k) k (log_of s')
  pub kept : (i : ℕ) → 2 * b + 4 * size ≤ i → cell ws' i ≡ cell ws i
  pub sent : Facing ws pt at b k (size / 2) lambda t → Sent ws ws' pt pt' s s' ch b k lambda
