-- The value of a table by halves: one step of the recursion.
-- Assumes nothing.
use mathlib.Core.Path.{◌≡◌, refl, sym, ◌∙◌, ap, ap₂, fun_ext}
use mathlib.Core.List.{List}
use Prim.Native.Nat.{ℕ, zero, suc, ◌+◌, ◌-◌, ◌*◌, ◌^◌, ◌/◌, ◌<◌}
use native.Mathlib.Nat.{two-pow-succ}
use native.Mathlib.Omega.{arith}
use lib.ListN.{length, take, drop}
use Rattle.field.specs.Ext as E
use Rattle.field.specs.ExtRing.{ExtRing}
use Rattle.field.specs.Cells.{cell, cells}
use Rattle.field.specs.CellLaws.{cell_take, cell_drop}
use Rattle.field.proofs.PointLaws.{cells_length, point_snoc}
use Rattle.multilinear.specs.Table as Table
use Rattle.multilinear.proofs.TableLaws as TableLaws
use Rattle.step.specs.Values.{line}

pub half : (n l : ℕ) → (n ≡ 0 → ⊥) → l ≡ 4 * 2 ^ n → (l / 2 ≡ 4 * 2 ^ (n - 1)) × (l ≡ l / 2 + l / 2)
half zero l h e = absurd (h refl)
half (suc n) l h e = let z : suc n - 1 ≡ n = omega arith in rw z (omega (arith, two-pow-succ n))

-- no variable is left
pub value_none : (n : ℕ) (t x : List ℕ) {r : E.Ext} → n ≡ 0 → r ≡ cell t 0 → r ≡ Table.value ExtRing (cell t) (cells x 0 n)
value_none n t x e h = h ∙ sym (TableLaws.value_nil ExtRing (cell t)) ∙ ap (λ k. Table.value ExtRing (cell t) (cells x 0 k)) (sym e)

module _ (k : ℕ) (t x : List ℕ) (len : length t ≡ 4 * 2 ^ suc k) where
  abbrev zs : List E.Ext
  zs = cells x 0 k

  small : (i : ℕ) → i < 2 ^ length (cells x 0 k) → i < 2 ^ k
  small i h = rw (cells_length x 0 k) at h

  -- the low half has the same entries
  low : Table.value ExtRing (cell (take (4 * 2 ^ k) t)) (cells x 0 k) ≡ Table.value ExtRing (cell t) (cells x 0 k)
  low = TableLaws.value_agrees ExtRing (cell (take (4 * 2 ^ k) t)) (cell t) (cells x 0 k) (λ i h. let s : i < 2 ^ k = small i h in cell_take (4 * 2 ^ k) t i (omega arith))

  high : Table.value ExtRing (cell (drop (4 * 2 ^ k) t)) (cells x 0 k) ≡ Table.value ExtRing (λ i. cell t (2 ^ length (cells x 0 k) + i)) (cells x 0 k)
  high =
      ap (λ (f : ℕ → E.Ext). Table.value ExtRing f (cells x 0 k))
      (fun_ext (λ i. cell_drop t (2 ^ k) i ∙ ap (λ m. cell t (2 ^ m + i)) (sym (cells_length x 0 k))))

  join : line (cell x k) (Table.value ExtRing (cell (take (4 * 2 ^ k) t)) (cells x 0 k)) (Table.value ExtRing (cell (drop (4 * 2 ^ k) t)) (cells x 0 k)) ≡ Table.value ExtRing (cell t) (cells x 0 (suc k))
  join = ap₂ (line (cell x k)) low high ∙ sym (TableLaws.value_halves ExtRing (cell t) (cells x 0 k) (cell x k)) ∙ ap (Table.value ExtRing (cell t)) (sym (point_snoc x k))

-- both halves are known
pub value_step : (n : ℕ) (t x l h : List ℕ) {a b r : E.Ext} → (n ≡ 0 → ⊥) → length t ≡ 4 * 2 ^ n → l ≡ take (length t / 2) t → h ≡ drop (length t / 2) t
    → a ≡ Table.value ExtRing (cell l) (cells x 0 (n - 1)) → b ≡ Table.value ExtRing (cell h) (cells x 0 (n - 1))
    → r ≡ line (cell x (n - 1)) a b → r ≡ Table.value ExtRing (cell t) (cells x 0 n)
value_step zero t x l h z len el eh ha hb hr = absurd (z refl)
value_step (suc k) t x l h {a} {b} z len el eh ha hb hr =
    let q : suc k - 1 ≡ k = omega arith in
    let m : length t / 2 ≡ 4 * 2 ^ k = (half (suc k) (length t) z len).0 ∙ ap (λ j. 4 * 2 ^ j) q in
    let a' : a ≡ Table.value ExtRing (cell (take (4 * 2 ^ k) t)) (cells x 0 k) = rw (el, q, m) at ha in
    let b' : b ≡ Table.value ExtRing (cell (drop (4 * 2 ^ k) t)) (cells x 0 k) = rw (eh, q, m) at hb in
    hr ∙ ap (λ j. line (cell x j) a b) q ∙ ap₂ (line (cell x k)) a' b' ∙ join k t x len
