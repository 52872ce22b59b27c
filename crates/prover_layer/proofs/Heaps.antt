-- The heap of eq tables, built level by level.
-- Assumes nothing.
use mathlib.Core.Path.{◌≡◌, refl, sym, ◌∙◌, ap, subst}
use mathlib.Core.List.{List}
use Prim.Native.Nat.{ℕ, zero, suc, ◌+◌, ◌-◌, ◌*◌, ◌/◌, ◌%◌, ◌^◌, ◌<◌, ◌≤◌}
use native.Mathlib.Nat.{add-zero, pow-succ', pow-le-pow_right}
use native.Mathlib.Bridge.{le_by_compare, IsLe}
use native.Mathlib.Numerals.{add-one}
use native.Mathlib.Omega.{arith}
use borrow.Author.Count.{below_more}
use lib.Pow.{pow_pos}
use Rattle.field.specs.Ext as E
use Rattle.field.specs.ExtRing.{ExtRing}
use Rattle.field.specs.Cells.{cell, Clean, Stored, cells}
use Rattle.multilinear.specs.Table as Table
use Rattle.step.specs.Values.{minus}
use Rattle.prover_tree.specs.Nodes.{Filled}
use Rattle.prover_tree.specs.NodeLaws.{below_or_not}
use Rattle.prover_layer.specs.Heap.{grown, Heaped}

-- ONE CELL BECOMES TWO

pub grown_two : (ws ws₁ ws₂ : List ℕ) (from to i : ℕ) (x t low high : E.Ext) → t ≡ cell ws (from + i) → low ≡ E.mul t (minus E.one x) → high ≡ E.mul t x
    → Stored ws ws₁ (to + 2 * i) low → Stored ws₁ ws₂ (to + 2 * i + 1) high → Filled ws ws₂ (to + 2 * i) 2 (grown ws (from + i) x)
unfolding Table.bit
grown_two ws ws₁ ws₂ from to i x t low high et el eh a b = record {
  clean = b.clean;
  filled = go;
  below = λ j l. b.rest j (λ q. omega arith) ∙ a.rest j (λ q. omega arith);
  above = λ j l. b.rest j (λ q. omega arith) ∙ a.rest j (λ q. omega arith);
}
  where
    told : (y : E.Ext) → E.mul t y ≡ E.mul y (cell ws (from + i + 0))
    told y = ap (λ s. E.mul s y) (et ∙ ap (cell ws) (sym (add-zero (from + i)))) ∙ ExtRing.mul_comm _ _

    go : (j : ℕ) → j < 2 → cell ws₂ (to + 2 * i + j) ≡ grown ws (from + i) x j
    go zero l = ap (cell ws₂) (add-zero (to + 2 * i)) ∙ b.rest (to + 2 * i) (λ q. omega arith) ∙ a.here ∙ el ∙ told (minus E.one x)
    go (suc zero) l = b.here ∙ eh ∙ told x
    go (suc (suc j)) l = absurd (omega arith)

-- two cells more of a level
pub level_next : (ws₀ ws ws' : List ℕ) (from to size i : ℕ) (x : E.Ext) → i < size → from + size ≤ to → Filled ws₀ ws to (2 * i) (grown ws₀ from x)
    → Filled ws ws' (to + 2 * i) 2 (grown ws (from + i) x) → Filled ws₀ ws' to (2 * (i + 1)) (grown ws₀ from x)
level_next ws₀ ws ws' from to size i x l u f g =
    record {
      clean = g.clean;
      filled = λ j h. below_more (λ j. cell ws' (to + j) ≡ grown ws₀ from x j) (2 * i + 1)
          (below_more (λ j. cell ws' (to + j) ≡ grown ws₀ from x j) (2 * i) (λ j h. g.below (to + j) (omega arith) ∙ f.filled j h) (new 0 (2 * i) (omega arith) (omega arith) (omega arith) (omega arith)))
          (new 1 (2 * i + 1) (omega arith) (omega arith) (omega arith) (omega arith)) j (omega arith);
      below = λ j h. g.below j (omega arith) ∙ f.below j h;
      above = λ j h. g.above j (omega arith) ∙ f.above j (omega arith);
    }
  where
    new : (s j : ℕ) → s < 2 → 2 * i + s ≡ j → s % 2 ≡ j % 2 → s / 2 + i ≡ j / 2 → cell ws' (to + j) ≡ grown ws₀ from x j
    new s j h e p q =
        let a : to + j ≡ to + 2 * i + s = omega arith in
        let b : from + i + s / 2 ≡ from + j / 2 = omega arith in
        let m : from + j / 2 < to = omega arith in
        ap (cell ws') a ∙ g.filled s h ∙ ap (λ k. E.mul (Table.bit ExtRing x k) (cell ws (from + i + s / 2))) p
        ∙ ap (λ k. E.mul (Table.bit ExtRing x (j % 2)) (cell ws k)) b ∙ ap (E.mul (Table.bit ExtRing x (j % 2))) (f.below (from + j / 2) m)

-- LEVEL BY LEVEL

-- level 0, after the store of 1
pub heap_start : (ws pt : List ℕ) (at k : ℕ) → Clean ws → cell ws (at + 1) ≡ E.one → Heaped ws ws pt at k 1
unfolding Table.weight
heap_start ws pt at k c s = record { clean = c; level = go; below = λ j l. refl; above = λ j l. refl }
  where
    go : (i y : ℕ) → i < 1 → y < 2 ^ i → cell ws (at + 2 ^ i + y) ≡ Table.weight ExtRing (cells pt (k - i) i) y
    go zero y l h = let e : at + 1 + y ≡ at + 1 = omega arith in ap (cell ws) e ∙ s
    go (suc i) y l h = absurd (omega arith)

pow_le : (d n : ℕ) → d ≤ n → 2 ^ d ≤ 2 ^ n
unfolding IsLe
pow_le d n h = pow-le-pow_right (le_by_compare 1 2 tt) h

-- level i + 1 from level i, by the coordinate before those that level i binds
pub heap_next : (ws₀ ws ws' pt : List ℕ) (at k i m : ℕ) (x : E.Ext) → suc i < k → m ≡ 2 ^ i → x ≡ cell pt (k - suc i) → Heaped ws₀ ws pt at k (suc i)
    → Filled ws ws' (at + 2 * m) (2 * m) (grown ws (at + m) x) → Heaped ws₀ ws' pt at k (suc (i + 1))
unfolding Table.weight
heap_next ws₀ ws ws' pt at k i m x l e d h f =
    subst (Heaped ws₀ ws' pt at k) (ap suc (sym (add-one i)))
    (record {
      clean = f.clean;
      level = λ j y u v. below_or_not j (suc i) (old j y v) (λ w. let q : suc i ≡ j = omega arith in subst (λ j. y < 2 ^ j → cell ws' (at + 2 ^ j + y) ≡ Table.weight ExtRing (cells pt (k - j) j) y) q (new y) v);
      below = λ j u. f.below j (omega (arith, pow_pos i)) ∙ h.below j u;
      above = λ j u. f.above j (omega (arith, four)) ∙ h.above j (omega (arith, four, two));
    })
  where
    two : 2 ^ suc i ≡ 2 * m
    two = pow-succ' 2 i ∙ ap (λ n. 2 * n) (sym e)

    four : 2 ^ suc (suc i) ≡ 4 * m
    four = pow-succ' 2 (suc i) ∙ ap (λ n. 2 * n) two ∙ omega arith

    old : (j y : ℕ) → y < 2 ^ j → j < suc i → cell ws' (at + 2 ^ j + y) ≡ Table.weight ExtRing (cells pt (k - j) j) y
    old j y v u =
        let w = pow_le (suc j) (suc i) u in
        let z = pow-succ' 2 j in
        f.below (at + 2 ^ j + y) (omega (arith, two, w, z)) ∙ h.level j y u v

    new : (y : ℕ) → y < 2 ^ suc i → cell ws' (at + 2 ^ suc i + y) ≡ Table.weight ExtRing (cells pt (k - suc i) (suc i)) y
    new y v =
        let a : at + 2 ^ suc i + y ≡ at + 2 * m + y = omega (arith, two) in
        let b : at + m + y / 2 ≡ at + 2 ^ i + y / 2 = omega (arith, e) in
        let n : suc (k - suc i) ≡ k - i = omega arith in
        ap (cell ws') a ∙ f.filled y (omega (arith, two))
        ∙ ap (λ z. E.mul (Table.bit ExtRing z (y % 2)) (cell ws (at + m + y / 2))) d
        ∙ ap (λ z. E.mul (Table.bit ExtRing (cell pt (k - suc i)) (y % 2)) z)
        (ap (cell ws) b ∙ h.level i (y / 2) (omega arith) (omega (arith, two, e)) ∙ ap (λ n. Table.weight ExtRing (cells pt n i) (y / 2)) (sym n))

-- the room of one level more
pub quarter : (i k n : ℕ) → i < k - 1 → n ≡ 2 ^ i → 4 * n ≤ 2 ^ k
quarter i k n l e =
    let w = pow_le (suc (suc i)) k (omega arith) in
    let p = pow-succ' 2 i in
    let q = pow-succ' 2 (suc i) in
    omega (arith, w, p, q, e)

-- all levels, from before the store of level 0
pub heap_end : (ws ws₁ ws₂ pt : List ℕ) (at k n : ℕ) (x : E.Ext) → 1 ≤ k → suc n ≡ k → Stored ws ws₁ (at + 1) x → Heaped ws₁ ws₂ pt at k (suc n) → Heaped ws ws₂ pt at k k
heap_end ws ws₁ ws₂ pt at k n x l e s h =
    let w = pow_le 1 (suc n) (omega arith) in
    subst (Heaped ws ws₂ pt at k) e
    (record {
      clean = h.clean;
      level = h.level;
      below = λ j u. h.below j u ∙ s.rest j (λ q. omega arith);
      above = λ j u. h.above j u ∙ s.rest j (λ q. omega (arith, w));
    })
