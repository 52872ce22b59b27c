-- A table evaluated in place: both halves brought together, entry by entry, until one entry is left.
-- Assumes nothing.
use mathlib.Core.Path.{◌≡◌, refl, ◌∙◌, ap, fun_ext}
use mathlib.Core.Bool.{Bool, true, false, cond, not}
use mathlib.Core.List.{List}
use Prim.Native.Nat.{ℕ, zero, suc, ◌+◌, ◌-◌, ◌*◌, ◌/◌, ◌^◌, ◌<◌, ◌≤◌}
use native.Mathlib.Nat.{not-suc-le-zero, two-pow-succ}
use native.Mathlib.Omega.{arith}
use lib.Dec.{T, ltb, ltb→lt, nltb→le}
use lib.ListN.{length}
use Rattle.field.specs.Ext as E
use Rattle.field.specs.ExtRing.{ExtRing}
use Rattle.field.specs.Cells.{cell, Clean, cells}
use Rattle.field.specs.Column.{flat}
use Rattle.field.proofs.ColumnLaws.{flat_cells}
use Rattle.field.proofs.PointLaws.{cells_length, point_snoc}
use Rattle.step.specs.Values.{line}
use Rattle.multilinear.specs.Table as Table
use Rattle.columns.specs.Tables as Tables
use Rattle.columns.specs.TablesLaws as TablesLaws
use Rattle.columns.specs.Passes.{Merged}

-- the whole list, as a table
pub merged_table : (ws ws' : List ℕ) (k : ℕ) (z : E.Ext) → Merged ws ws' (2 ^ k) (2 ^ k) z → cell ws' ≡ Tables.merge_in ExtRing k (cell ws) z
unfolding Tables.merge_in Table.merge
merged_table ws ws' k z g = fun_ext (λ i. go i (ltb i (2 ^ k)) (ltb→lt i (2 ^ k)) (nltb→le i (2 ^ k)))
  where
    go : (i : ℕ) (b : Bool) → (T b → i < 2 ^ k) → (T (not b) → 2 ^ k ≤ i) → cell ws' i ≡ cond b (line z (cell ws i) (cell ws (2 ^ k + i))) (cell ws i)
    go i true lo hi = g.low i (lo tt)
    go i false lo hi = g.rest i (hi tt)

-- one variable is bound: with k left, `half` entries are in use
pub half_of : (k half : ℕ) → 0 < k → half ≡ 2 ^ k → half / 2 ≡ 2 ^ (k - 1)
half_of zero half l e = absurd (not-suc-le-zero l)
half_of (suc j) half l e = let q : suc j - 1 ≡ j = omega arith in rw q (omega (arith, two-pow-succ j))

pub in_place_turn : (ws ws' : List ℕ) (k half : ℕ) (z : ℕ → E.Ext) (x : E.Ext) (t : ℕ → E.Ext) → 0 < k → half ≡ 2 ^ k → x ≡ z (k - 1) → Merged ws ws' (half / 2) (half / 2) x
    → Tables.overwrite ExtRing k z (cell ws) ≡ t → Tables.overwrite ExtRing (k - 1) z (cell ws') ≡ t
unfolding Tables.overwrite
in_place_turn ws ws' zero half z x t l e d g h = absurd (not-suc-le-zero l)
in_place_turn ws ws' (suc j) half z x t l e d g h =
    let q : suc j - 1 ≡ j = omega arith in
    let e' : half / 2 ≡ 2 ^ j = half_of (suc j) half l e ∙ ap (λ i. 2 ^ i) q in
    let m : Merged ws ws' (2 ^ j) (2 ^ j) (z j) = rw (e', d, q) at g in
    rw q (ap (Tables.overwrite ExtRing j z) (merged_table ws ws' j (z j) m) ∙ h)

-- none is left
pub in_place_end : (k : ℕ) (ws : List ℕ) (z t : ℕ → E.Ext) → k ≤ 0 → Tables.overwrite ExtRing k z (cell ws) ≡ t → cell ws ≡ t
unfolding Tables.overwrite
in_place_end zero ws z t l h = h
in_place_end (suc k) ws z t l h = absurd (not-suc-le-zero l)

pub in_place_value : (n : ℕ) (x t : List ℕ) → Tables.overwrite ExtRing n (cell x) (cell t) 0 ≡ Table.value ExtRing (cell t) (cells x 0 n)
in_place_value n x t = TablesLaws.overwrite_value ExtRing (cell x) (cells x 0) (cells_length x 0) refl (point_snoc x) n (cell t)

pub in_place_table : (n : ℕ) {l : List ℕ} (t : ℕ → E.Ext) → Clean l → length l ≡ 4 * 2 ^ n → cell l ≡ t → l ≡ flat t (2 ^ n)
in_place_table n {l} t c h e = flat_cells (2 ^ n) c h ∙ ap (λ (f : ℕ → E.Ext). flat f (2 ^ n)) e
