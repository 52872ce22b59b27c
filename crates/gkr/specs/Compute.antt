-- What the worked examples are written with: what unfolds when the model computes, and small elements, fractions and rows.
-- Assumes nothing.
use Rattle.std.specs.Prelude.{List, ℕ, ◌-◌, get_or}
use Rattle.ring.specs.Ring.{num}
use Rattle.field.specs.Base.{P}
use Rattle.field.specs.Ext as X
use Rattle.field.specs.Ext.{Ext, ext}
use Rattle.multilinear.specs.Table
use Rattle.multilinear.specs.Interpolate
use Rattle.multilinear.specs.RoundSum
use Rattle.multilinear.specs.RoundSum.{Claims}
use Rattle.gkr.specs.Run.{Frac, Cubic}
use Rattle.gkr.specs.Tree
use Rattle.gkr.specs.Sumcheck
use Rattle.gkr.specs.Gkr

-- `unfolding model arithmetic` opens all that closed runs compute by
unfoldable pub model : Unit {0}
unfolding Gkr.fractional_sumcheck Gkr.run Gkr.send Gkr.verify_gkr Gkr.counted Gkr.root Gkr.rounds Tree.tree Sumcheck.send Sumcheck.verify_gkr_sumcheck RoundSum.s RoundSum.total Interpolate.cubic Table.value Table.sum Table.fold Table.merge Table.weight Table.bit num X.same
model = tt

-- the integers n and −n
abbrev pub el : (n : ℕ) → Ext
el n = ext n 0 0 0

abbrev pub minus : (n : ℕ) → Ext
minus n = ext (P - n) 0 0 0

abbrev pub frac : (p q : Ext) → Frac Ext
frac p q = record { p = p; q = q }

abbrev pub claims : (p0 q0 p1 q1 : Ext) → Claims Ext
claims p0 q0 p1 q1 = record { p0 = p0; q0 = q0; p1 = p1; q1 = q1 }

abbrev pub cubic : (s1 s2 s3 : Ext) → Cubic Ext
cubic s1 s2 s3 = record { at1 = s1; at2 = s2; at3 = s3 }

-- a list of rows as the table that the model takes
abbrev pub rows : (l : List (Frac Ext)) → ℕ → Frac Ext
rows l i = get_or l i (frac (el 0) (el 1))
