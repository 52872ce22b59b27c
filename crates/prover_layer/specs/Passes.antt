-- The claims of a layer as pairs of words, the sums of a sub-round over them, and what the passes leave.
-- Assumes nothing.
use Rattle.std.specs.Prelude.{◌≡◌, List, ℕ, ◌+◌, ◌*◌, ◌<◌, ◌≤◌}
use Rattle.field.specs.Ext as E
use Rattle.field.specs.ExtRing.{ExtRing}
use Rattle.field.specs.Element.{dec}
use Rattle.field.specs.Cells.{cell, Clean}
use Rattle.multilinear.specs.Table as Table
use Rattle.multilinear.specs.RoundSum.{Claims}
use Rattle.step.specs.Values.{CanonFrac, IsFrac, zip, minus, numerator}
use Rattle.prover_layer.specs.declared.Pair.{Pair}
use Rattle.prover_layer.specs.Columns.{claims}

-- PAIRS

pub record CanonPair (t : Pair) : Type 0 where
  pub l : CanonFrac t.l
  pub r : CanonFrac t.r

pub record IsPair (t : Pair) (c : Claims E.Ext) : Type 0 where
  pub l : IsFrac t.l (record { p = c.p0; q = c.q0 })
  pub r : IsFrac t.r (record { p = c.p1; q = c.q1 })

abbrev pub dec_pair : Pair → Claims E.Ext
dec_pair t = record { p0 = dec t.l.p; q0 = dec t.l.q; p1 = dec t.r.p; q1 = dec t.r.q }

-- SUMS

-- the numerator of entry 2y + off, weighed by the cell at + y
abbrev pub side : List ℕ → ℕ → ℕ → ℕ → ℕ → E.Ext
side ws at b off y = E.mul (cell ws (at + y)) (numerator (claims ws b (2 * y + off)))

-- h at 0, of even entries, or at 1, of odd ones
abbrev pub side_sum : List ℕ → ℕ → ℕ → ℕ → ℕ → E.Ext
side_sum ws at b off n = Table.sum ExtRing n (side ws at b off)

-- the difference of the entries 2y + 1 and 2y
abbrev pub differ : (ℕ → Claims E.Ext) → ℕ → Claims E.Ext
differ c y = zip minus (c (2 * y + 1)) (c (2 * y))

-- the leading coefficient of h
abbrev pub lead : List ℕ → ℕ → ℕ → ℕ → E.Ext
lead ws at b n = Table.sum ExtRing n (λ y. E.mul (cell ws (at + y)) (numerator (differ (claims ws b) y)))

-- entry 2y and rho times entry 2y + 1
abbrev pub rise : E.Ext → (ℕ → Claims E.Ext) → ℕ → Claims E.Ext
rise rho c y = zip (λ a d. E.add (E.mul d rho) a) (c (2 * y)) (c (2 * y + 1))

-- PASSES

-- c is put into entry i
pub record StoredPair (ws ws' : List ℕ) (b i : ℕ) (c : Claims E.Ext) : Type 0 where
  pub clean : Clean ws'
  pub nodes : claims ws' b i ≡ c
  pub rest : (j : ℕ) → (2 * b + 4 * i ≤ j → j < 2 * b + 4 * i + 4 → ⊥) → cell ws' j ≡ cell ws j

-- the first n odd entries are differences, and all other cells are as before
pub record Risen (ws ws' : List ℕ) (b n : ℕ) : Type 0 where
  pub clean : Clean ws'
  pub even : (y : ℕ) → y < n → claims ws' b (2 * y) ≡ claims ws b (2 * y)
  pub odd : (y : ℕ) → y < n → claims ws' b (2 * y + 1) ≡ differ (claims ws b) y
  pub below : (j : ℕ) → j < 2 * b → cell ws' j ≡ cell ws j
  pub above : (j : ℕ) → 2 * b + 8 * n ≤ j → cell ws' j ≡ cell ws j

-- the first n entries are folded at rho, and all cells behind them are as before
pub record Folded (ws ws' : List ℕ) (b n : ℕ) (rho : E.Ext) : Type 0 where
  pub clean : Clean ws'
  pub nodes : (y : ℕ) → y < n → claims ws' b y ≡ rise rho (claims ws b) y
  pub below : (j : ℕ) → j < 2 * b → cell ws' j ≡ cell ws j
  pub above : (j : ℕ) → 2 * b + 4 * n ≤ j → cell ws' j ≡ cell ws j
