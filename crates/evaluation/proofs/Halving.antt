-- The values of both columns by halves of the rows: one step of the recursion.
-- Assumes nothing.
use mathlib.Core.Path.{◌≡◌, refl, sym, ◌∙◌, ap, ap₂, subst}
use mathlib.Core.List.{List}
use Prim.Native.Nat.{ℕ, zero, suc, ◌+◌, ◌-◌, ◌*◌, ◌^◌, ◌/◌, ◌<◌}
use native.Mathlib.Nat.{two-pow-succ}
use native.Mathlib.Omega.{arith}
use lib.ListN.{length, take, drop}
use Rattle.field.specs.Ext as E
use Rattle.field.specs.ExtRing.{ExtRing}
use Rattle.field.specs.ElementLaws.{is_eq}
use Rattle.field.specs.Cells.{cell, cells}
use Rattle.field.specs.CellLaws.{cell_take, cell_drop}
use Rattle.field.proofs.PointLaws.{cells_length, point_snoc}
use Rattle.multilinear.specs.Table as Table
use Rattle.multilinear.proofs.TableLaws as TableLaws
use Rattle.gkr.specs.Run.{Frac}
use Rattle.gkr.specs.Tree as Tree
use Rattle.step.specs.declared.Frac.{Frac as FracW}
use Rattle.step.specs.Values.{IsFrac, dec_frac, zip_frac, line}
use Rattle.prover_tree.specs.Nodes.{node}

pub half : (n l : ℕ) → (n ≡ 0 → ⊥) → l ≡ 8 * 2 ^ n → (l / 2 ≡ 8 * 2 ^ (n - 1)) × (l ≡ l / 2 + l / 2)
half zero l h e = absurd (h refl)
half (suc n) l h e = let z : suc n - 1 ≡ n = omega arith in rw z (omega (arith, two-pow-succ n))

pub is_frac : {r : FracW} {x y : Frac E.Ext} → IsFrac r x → x ≡ y → IsFrac r y
is_frac h e = record { p = is_eq h.p (ap (λ (f : Frac E.Ext). f.p) e); q = is_eq h.q (ap (λ (f : Frac E.Ext). f.q) e) }

-- A column whose halves lo and hi are known at the first k coordinates: coordinate k is between them.
join : (t lo hi : ℕ → E.Ext) (x : List ℕ) (k : ℕ) → ((i : ℕ) → i < 2 ^ k → lo i ≡ t i) → ((i : ℕ) → i < 2 ^ k → hi i ≡ t (2 ^ k + i))
    → line (cell x k) (Table.value ExtRing lo (cells x 0 k)) (Table.value ExtRing hi (cells x 0 k)) ≡ Table.value ExtRing t (cells x 0 (suc k))
join t lo hi x k low high =
    ap₂ (line (cell x k)) (TableLaws.value_agrees ExtRing lo t zs (λ i h. low i (small i h)))
    (TableLaws.value_agrees ExtRing hi (λ i. t (2 ^ length zs + i)) zs (λ i h. high i (small i h) ∙ ap (λ m. t (2 ^ m + i)) (sym (cells_length x 0 k))))
    ∙ sym (TableLaws.value_halves ExtRing t zs (cell x k))
    ∙ ap (Table.value ExtRing t) (sym (point_snoc x k))
  where
    zs : List E.Ext
    zs = cells x 0 k

    small : (i : ℕ) → i < 2 ^ length (cells x 0 k) → i < 2 ^ k
    small i h = rw (cells_length x 0 k) at h

-- THE HALVES OF THE ROWS

low_cell : (k : ℕ) (l : List ℕ) (j : ℕ) → j < 2 * 2 ^ k → cell (take (8 * 2 ^ k) l) j ≡ cell l j
low_cell k l j h = cell_take (8 * 2 ^ k) l j (omega arith)

high_cell : (k : ℕ) (l : List ℕ) (j m : ℕ) → 2 * 2 ^ k + j ≡ m → cell (drop (8 * 2 ^ k) l) j ≡ cell l m
high_cell k l j m e =
    let z : 8 * 2 ^ k ≡ 4 * (2 * 2 ^ k) = omega arith in
    ap (λ d. cell (drop d l) j) z ∙ cell_drop l (2 * 2 ^ k) j ∙ ap (cell l) e

-- both columns at once
joined : (k : ℕ) (l x : List ℕ)
    → zip_frac (line (cell x k)) (Tree.value ExtRing (node (take (8 * 2 ^ k) l)) (cells x 0 k)) (Tree.value ExtRing (node (drop (8 * 2 ^ k) l)) (cells x 0 k))
    ≡ Tree.value ExtRing (node l) (cells x 0 (suc k))
joined k l x = λ t. record {
  p = join (λ i. cell l (2 * i)) _ _ x k (λ i h. low_cell k l (2 * i) (omega arith)) (λ i h. high_cell k l (2 * i) (2 * (2 ^ k + i)) (omega arith)) t;
  q = join (λ i. cell l (2 * i + 1)) _ _ x k (λ i h. low_cell k l (2 * i + 1) (omega arith)) (λ i h. high_cell k l (2 * i + 1) (2 * (2 ^ k + i) + 1) (omega arith)) t;
}

-- THE RECURSION

-- no coordinate is left, and one row
pub rows_one : (n : ℕ) (l x : List ℕ) {r : FracW} → n ≡ 0 → IsFrac r (node l 0) → IsFrac r (Tree.value ExtRing (node l) (cells x 0 n))
rows_one n l x {r} e h =
    subst (λ k. IsFrac r (Tree.value ExtRing (node l) (cells x 0 k))) (sym e)
    (is_frac h (λ t. record { p = sym (TableLaws.value_nil ExtRing (λ i. cell l (2 * i))) t; q = sym (TableLaws.value_nil ExtRing (λ i. cell l (2 * i + 1))) t }))

-- what is read of a pair goes into the line
lines : (z : E.Ext) {a b : FracW} {u v : Frac E.Ext} → IsFrac a u → IsFrac b v → zip_frac (line z) (dec_frac a) (dec_frac b) ≡ zip_frac (line z) u v
lines z h k = λ t. record { p = line z (h.p.value t) (k.p.value t); q = line z (h.q.value t) (k.q.value t) }

-- both halves are known
pub rows_halved : (n : ℕ) (l x lo hi : List ℕ) {a b r : FracW} → (n ≡ 0 → ⊥) → length l ≡ 8 * 2 ^ n → lo ≡ take (length l / 2) l → hi ≡ drop (length l / 2) l
    → IsFrac a (Tree.value ExtRing (node lo) (cells x 0 (n - 1))) → IsFrac b (Tree.value ExtRing (node hi) (cells x 0 (n - 1)))
    → IsFrac r (zip_frac (line (cell x (n - 1))) (dec_frac a) (dec_frac b)) → IsFrac r (Tree.value ExtRing (node l) (cells x 0 n))
rows_halved zero l x lo hi z len el eh ha hb hr = absurd (z refl)
rows_halved (suc k) l x lo hi {a} {b} z len el eh ha hb hr =
    let q : suc k - 1 ≡ k = omega arith in
    let h : length l / 2 ≡ 8 * 2 ^ k = (half (suc k) (length l) z len).0 ∙ ap (λ j. 8 * 2 ^ j) q in
    let ha' : IsFrac a (Tree.value ExtRing (node (take (8 * 2 ^ k) l)) (cells x 0 k)) =
    is_frac ha (ap₂ (λ m j. Tree.value ExtRing (node m) (cells x 0 j)) (el ∙ ap (λ m. take m l) h) q) in
    let hb' : IsFrac b (Tree.value ExtRing (node (drop (8 * 2 ^ k) l)) (cells x 0 k)) =
    is_frac hb (ap₂ (λ m j. Tree.value ExtRing (node m) (cells x 0 j)) (eh ∙ ap (λ m. drop m l) h) q) in
    is_frac hr (ap (λ j. zip_frac (line (cell x j)) (dec_frac a) (dec_frac b)) q ∙ lines (cell x k) ha' hb' ∙ joined k l x)
