-- Three elements in the first three cells, and all other cells as before; a sub-round's polynomial.
-- Assumes nothing.
use Rattle.std.specs.Prelude.{◌≡◌, List, ℕ, ◌≤◌}
use Rattle.field.specs.Ext as E
use Rattle.field.specs.ExtRing.{ExtRing}
use Rattle.field.specs.Cells.{cell, Clean}
use Rattle.multilinear.specs.Forms as Forms
use Rattle.prover_layer.specs.Message.{parabola}
use Rattle.prover_layer.specs.Passes.{side_sum, lead}

pub record InFront (ws ws' : List ℕ) (a b c : E.Ext) : Type 0 where
  pub clean : Clean ws'
  pub first : cell ws' 0 ≡ a
  pub second : cell ws' 1 ≡ b
  pub third : cell ws' 2 ≡ c
  pub rest : (j : ℕ) → 3 ≤ j → cell ws' j ≡ cell ws j

-- the polynomial at z, over n pairs of entries, after eq of c and at the coordinate x
abbrev pub spoken : List ℕ → ℕ → ℕ → ℕ → E.Ext → E.Ext → E.Ext → E.Ext
spoken ws at b n c x z = E.mul (E.mul c (Forms.agree ExtRing x z)) (parabola (side_sum ws at b 0 n) (side_sum ws at b 1 n) (lead ws at b n) z)
