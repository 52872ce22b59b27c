-- The first sub-round of a round: h at 0 and at 1 are the claims of the round before, batched by lambda.
-- Assumes nothing.
use mathlib.Core.Path.{◌≡◌, sym, ◌∙◌, ap, ap₂, subst}
use mathlib.Core.List.{List, [], ◌∷◌}
use Prim.Native.Nat.{ℕ, suc, ◌+◌, ◌-◌, ◌*◌, ◌/◌, ◌^◌, ◌<◌, ◌≤◌}
use native.Mathlib.Nat.{add-zero, pow-succ'}
use native.Mathlib.Omega.{arith}
use lib.ListN.{length}
use Rattle.ring.proofs.Quote.{ring, quote}
use Rattle.field.specs.Ext as E
use Rattle.field.specs.ExtRing.{ExtRing}
use Rattle.field.specs.Cells.{cell, cells}
use Rattle.field.proofs.PointLaws.{cells_length}
use Rattle.multilinear.specs.Table as Table
use Rattle.multilinear.proofs.TableLaws as TableLaws
use Rattle.multilinear.specs.RoundSum as RoundSum
use Rattle.multilinear.specs.RoundSum.{Claims}
use Rattle.gkr.specs.Tree as Tree
use Rattle.prover_tree.specs.Nodes.{node}
use Rattle.prover_layer.specs.declared.Turn.{Turn}
use Rattle.prover_layer.specs.Columns.{claims}
use Rattle.prover_layer.specs.Message.{CanonTurn, IsTurn}
use Rattle.prover_layer.specs.Heap.{Heaped}
use Rattle.prover_layer.proofs.Entries.{claims_kept}
use Rattle.prover_rounds.specs.SubRounds.{faced, Facing}
use Rattle.prover_rounds.specs.Layers.{Opened}

pub turn_canon : {t : Turn} {a z u v : E.Ext} → IsTurn t a z u v → CanonTurn t
turn_canon T = record { c = T.c.canon; x = T.x.canon; h0 = T.h0.canon; h1 = T.h1.canon }

abbrev summed : Claims E.Ext → E.Ext
summed c = (Tree.compute_recursive_relations ExtRing c).p

abbrev divided : Claims E.Ext → E.Ext
divided c = (Tree.compute_recursive_relations ExtRing c).q

turned : (p q l : E.Ext) → E.add (E.mul q l) p ≡ E.add p (E.mul l q)
turned p q l = ring ExtRing (p ∷ q ∷ l ∷ []) (search quote depth 40 fits 9999) tt

-- the value of a column of sums, batched: a sum over weights
batched : (zs : List E.Ext) (f : ℕ → Claims E.Ext) (l : E.Ext)
    → E.add (E.mul (Table.value ExtRing (λ y. divided (f y)) zs) l) (Table.value ExtRing (λ y. summed (f y)) zs)
    ≡ Table.sum ExtRing (2 ^ length zs) (λ y. E.mul (Table.weight ExtRing zs y) (RoundSum.cross ExtRing l (f y)))
unfolding Table.value
batched zs f l =
    turned _ _ l ∙ sym (TableLaws.value_linear ExtRing (λ y. summed (f y)) (λ y. divided (f y)) l zs)
    ∙ TableLaws.sum_cong ExtRing _ (λ y. ExtRing.mul_comm _ _)

module _ (ws ws₁ pt : List ℕ) (at k size : ℕ) (l : E.Ext) (e : size ≡ 2 ^ k) (p : 1 ≤ k) (u : 8 * size ≤ at) (h : Heaped ws ws₁ pt at k k) where
  abbrev half : ℕ
  half = size / 2

  abbrev zs : List E.Ext
  zs = cells pt 1 (k - 1)

  half_is : half ≡ 2 ^ (k - 1)
  half_is = let q : k ≡ suc (k - 1) = omega arith in let s : size ≡ 2 * 2 ^ (k - 1) = e ∙ ap (λ n. 2 ^ n) q ∙ pow-succ' 2 (k - 1) in omega (arith, s)

  count : 2 ^ length zs ≡ half
  count = ap (λ n. 2 ^ n) (cells_length pt 1 (k - 1)) ∙ sym half_is

  weights : (y : ℕ) → y < half → Table.weight ExtRing zs y ≡ cell ws₁ (at + half + y)
  weights y v =
      let q : k - (k - 1) ≡ 1 = omega arith in
      sym (ap (λ n. cell ws₁ (at + n + y)) half_is ∙ h.level (k - 1) y (omega arith) (subst (λ n. y < n) half_is v) ∙ ap (λ n. Table.weight ExtRing (cells pt n (k - 1)) y) q)

  kept : (y off : ℕ) → y < half → off < 2 → claims ws₁ (2 * size) (2 * y + off) ≡ claims ws (2 * size) (2 * y + off)
  kept y off v w = claims_kept ws ws₁ (2 * size) (2 * y + off) (λ j a b. h.below j (omega arith))

  face : (off : ℕ) → off < 2 → (g : ℕ → Claims E.Ext) → ((y : ℕ) → g y ≡ claims ws (2 * size) (2 * y + off))
      → E.add (E.mul (Table.value ExtRing (λ y. divided (g y)) zs) l) (Table.value ExtRing (λ y. summed (g y)) zs) ≡ faced ws₁ (at + half) (2 * size) off half l
  face off w g q =
      batched zs g l ∙ ap (λ n. Table.sum ExtRing n (λ y. E.mul (Table.weight ExtRing zs y) (RoundSum.cross ExtRing l (g y)))) count
      ∙ TableLaws.sum_below ExtRing half _ _ (λ y v. ap₂ (λ c d. E.mul c (RoundSum.cross ExtRing l d)) (weights y v) (q y ∙ sym (kept y off v w)))

  pub facing : (t : Turn) → IsTurn t E.one (cell pt 0) (E.add (E.mul (node ws size).q l) (node ws size).p) (E.add (E.mul (node ws (size + 1)).q l) (node ws (size + 1)).p)
      → Opened ws pt k size → Facing ws₁ pt at (2 * size) k half l t
  facing t T O = record {
    heap = h.level;
    c = T.c.value;
    x = T.x.value;
    h0 = T.h0.value ∙ ap (λ n. E.add (E.mul (node ws n).q l) (node ws n).p) (sym (add-zero size)) ∙ ap (λ c. E.add (E.mul c.q0 l) c.p0) O
        ∙ face 0 (omega arith) (λ y. claims ws (2 * size) (2 * y)) (λ y. ap (claims ws (2 * size)) (sym (add-zero (2 * y))));
    h1 = T.h1.value ∙ ap (λ c. E.add (E.mul c.q1 l) c.p1) O ∙ face 1 (omega arith) (λ y. claims ws (2 * size) (2 * y + 1)) (λ y i. claims ws (2 * size) (2 * y + 1));
  }
