-- The table of weights, built by doubling.
-- Assumes nothing.
use mathlib.Core.Path.{◌≡◌, sym, ◌∙◌, ap, subst}
use mathlib.Core.Bool.{Bool, true, false, not}
use mathlib.Core.List.{List, [], ◌∷◌, ◌++◌}
use Prim.Native.Nat.{ℕ, ◌+◌, ◌*◌, ◌-◌, ◌^◌, ◌<◌, ◌≤◌}
use native.Mathlib.Nat.{pow-le-pow_right, pow-succ'}
use native.Mathlib.Bridge.{le_by_compare, IsLe}
use native.Mathlib.Numerals.{add-one}
use native.Mathlib.Omega.{arith}
use lib.Dec.{T, ltb, ltb→lt, nltb→le}
use lib.ListN.{length}
use Rattle.field.specs.Ext as E
use Rattle.field.specs.ExtRing.{ExtRing}
use Rattle.field.specs.Cells.{cell, Clean, cells}
use Rattle.field.specs.Column.{flat}
use Rattle.field.proofs.ColumnLaws.{flat_cells, flat_cong}
use Rattle.field.proofs.PointLaws.{cells_length, point_snoc}
use Rattle.multilinear.specs.Table as Table
use Rattle.multilinear.proofs.TableLaws as TableLaws
use Rattle.step.specs.Values.{minus}
use Rattle.columns.specs.Passes.{Grown}

-- what the table holds
abbrev pub Weighs : List ℕ → ℕ → List E.Ext → Type 0
Weighs ws size zs = (i : ℕ) → i < size → cell ws i ≡ Table.weight ExtRing zs i

pub weights_start : (ws : List ℕ) → cell ws 0 ≡ E.one → Weighs ws 1 []
unfolding Table.weight
weights_start ws e i l = let z : i ≡ 0 = omega arith in ap (cell ws) z ∙ e

-- a whole table of weights, doubled
weights_next : (ws ws' : List ℕ) (size : ℕ) (zs : List E.Ext) (x : E.Ext) → size ≡ 2 ^ length zs
    → Weighs ws size zs → Grown ws ws' size size x → Weighs ws' (size * 2) (zs ++ (x ∷ []))
weights_next ws ws' size zs x e f g i l = go (ltb i size) (ltb→lt i size) (nltb→le i size)
  where
    all : ℕ → E.Ext
    all = Table.weight ExtRing (zs ++ (x ∷ []))

    low : i < size → cell ws' i ≡ Table.weight ExtRing (zs ++ (x ∷ [])) i
    low h = g.low i h ∙ ap (λ t. E.mul t (minus E.one x)) (f i h) ∙ sym (TableLaws.weight_low ExtRing zs x i (subst (λ n. i < n) e h))

    high : size ≤ i → cell ws' i ≡ Table.weight ExtRing (zs ++ (x ∷ [])) i
    high h =
        let k = i - size in
        let b : size + k ≡ i = omega arith in
        let u : k < size = omega arith in
        sym (ap (cell ws') b)
        ∙ g.high k u ∙ ap (λ t. E.mul t x) (f k u)
        ∙ sym (TableLaws.weight_high ExtRing zs x k (subst (λ n. k < n) e u))
        ∙ ap (λ n. Table.weight ExtRing (zs ++ (x ∷ [])) (n + k)) (sym e)
        ∙ ap (Table.weight ExtRing (zs ++ (x ∷ []))) b

    go : (t : Bool) → (T t → i < size) → (T (not t) → size ≤ i) → cell ws' i ≡ Table.weight ExtRing (zs ++ (x ∷ [])) i
    go true lo hi = low (lo tt)
    go false lo hi = high (hi tt)

pub double_le : (j k : ℕ) → j < k → 2 * 2 ^ j ≤ 2 ^ k
unfolding IsLe
double_le j k h = omega (arith, pow-le-pow_right (le_by_compare 1 2 tt) h)

pub weights_turn : (ws ws' z : List ℕ) (size j : ℕ) (x : E.Ext) → size ≡ 2 ^ j → x ≡ cell z j
    → Weighs ws size (cells z 0 j) → Grown ws ws' size size x → Weighs ws' (size * 2) (cells z 0 (j + 1))
weights_turn ws ws' z size j x e d f g =
    subst (Weighs ws' (size * 2))
    (ap (λ x. cells z 0 j ++ (x ∷ [])) d ∙ sym (point_snoc z j) ∙ ap (cells z 0) (sym (add-one j)))
    (weights_next ws ws' size (cells z 0 j) x (e ∙ ap (λ k. 2 ^ k) (sym (cells_length z 0 j))) f g)

pub power_turn : (n j : ℕ) → n ≡ 2 ^ j → n * 2 ≡ 2 ^ (j + 1)
power_turn n j e = let d : n * 2 ≡ 2 * 2 ^ j = omega arith in d ∙ sym (pow-succ' 2 j) ∙ ap (λ k. 2 ^ k) (sym (add-one j))

-- the list is the column of the weights
pub weights_all : (n : ℕ) {l : List ℕ} (zs : List E.Ext) → Clean l → length l ≡ 4 * 2 ^ n → Weighs l (2 ^ n) zs → l ≡ flat (Table.weight ExtRing zs) (2 ^ n)
weights_all n {l} zs c h w = flat_cells (2 ^ n) c h ∙ flat_cong (cell l) (Table.weight ExtRing zs) (2 ^ n) w
