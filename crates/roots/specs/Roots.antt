-- Live mode and the sum of all rows: a row is over zero exactly where the sum is, so the row check tells of the sum.
-- Assumes nothing.
use Rattle.std.specs.Prelude.{◌≡◌, true, false, List, ◌↔◌, ℕ, ◌^◌, Err}
use Rattle.field.specs.Ext as E
use Rattle.field.specs.ExtRing.{ExtRing}
use Rattle.field.specs.Element.{dec}
use Rattle.gkr.specs.Tree as Tree
use Rattle.step.specs.declared.Frac.{Frac}
use Rattle.refusal.specs.Tests.{passed}
use Rattle.refusal.specs.declared.Refusal.TheVariants.{ZeroDenominator}
use Rattle.prover_tree.specs.Nodes.{node}
use Rattle.sizes.specs.Sizes.{row_count}
use Rattle.prover_gate.specs.declared.Rooms.{Rooms}
use Rattle.prover_gate.specs.Refusals.{Call, first_refusal}
use Rattle.prover.specs.Proved.{Buffers, fronts, proved, summed}
use Rattle.prover.specs.Companions.{in_mode, Sound}

-- the sum of 2 ^ n rows is over zero
abbrev pub OverZero : (rows : List ℕ) (n : ℕ) → Type 0
OverZero rows n = (Tree.tree ExtRing (node rows) n 0).q ≡ E.nil

-- ROWS AND SUM: of 2 ^ n rows none is over zero exactly where their sum is not
abbrev pub RowsAndSum : Type 0
RowsAndSum = (rows : List ℕ) (n : ℕ) → row_count rows ≡ 2 ^ n → Sound rows ↔ ¬ (OverZero rows n)

-- DONE IN LIVE MODE: no row is over zero, nor is the sum that is told
abbrev pub LiveRoot : Type 0
LiveRoot = (c : Call) (b : Buffers) (n : ℕ) (s : Frac) → (proved (in_mode true c) b).answer ≡ summed n s → Sound c.rows × ¬ (dec s.q ≡ E.nil)

-- SEVEN: live mode gives it exactly where 1 to 6 do not apply and the sum is over zero
abbrev pub Seven : Type 0
Seven =
    (c : Call) (r : Rooms) (n : ℕ) → row_count c.rows ≡ 2 ^ n
    → ((i : ℕ) × ((fronts (in_mode true c) r).answer ≡ Err (ZeroDenominator i))) ↔ ((first_refusal (in_mode false c) r ≡ passed) × OverZero c.rows n)
