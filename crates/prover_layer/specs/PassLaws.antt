-- No second workspace fits a heap, differences or a fold, nor a second beginning of a sub-round: they say what every cell holds. A lent slice keeps its length.
-- Assumes nothing.
use Rattle.std.specs.Prelude.{◌≡◌, List, ℕ, zero, suc, ◌+◌, ◌-◌, ◌*◌, ◌/◌, ◌^◌, ◌<◌, ◌≤◌, length}
use Rattle.std.proofs.Common.{sym, ◌∙◌, ap, arith}
use Rattle.std.proofs.Math.Nat.{pow-succ'}
use Rattle.field.specs.Ext as E
use Rattle.field.specs.ElementLaws.{is_unique}
use Rattle.field.specs.Cells.{cell}
use Rattle.field.specs.CellLaws.{cells_unique}
use Rattle.prover_tree.specs.NodeLaws.{below_or_not, equal_or_not}
use Rattle.prover_layer.specs.declared.Turn.{Turn}
use Rattle.prover_layer.specs.Columns.{claims}
use Rattle.prover_layer.specs.ColumnLaws.{in_nodes}
use Rattle.prover_layer.specs.Heap.{Heaped}
use Rattle.prover_layer.specs.Message.{IsTurn}
use Rattle.prover_layer.specs.Passes.{Risen, Folded}

-- a number from 1 on lies in one level of a heap
in_level : {A : Type 0} (n k : ℕ) → 1 ≤ k → k < 2 ^ n → ((i y : ℕ) → i < n → y < 2 ^ i → 2 ^ i + y ≡ k → A) → A
in_level zero k a b f = absurd (omega arith)
in_level (suc n) k a b f =
    let e = pow-succ' 2 n in
    below_or_not k (2 ^ n) (λ u. in_level n k a u (λ i y v w q. f i y (omega arith) w q)) (λ u. f n (k - 2 ^ n) (omega arith) (omega (arith, e)) (omega arith))

pub heaped_unique : {ws l m pt : List ℕ} {at k n : ℕ} → length l ≡ length m → Heaped ws l pt at k n → Heaped ws m pt at k n → l ≡ m
heaped_unique {ws} {l} {m} {pt} {at} {k} {n} e h h' = cells_unique l m h.clean h'.clean e here
  where
    inside : (j : ℕ) → at < j → j < at + 2 ^ n → cell l j ≡ cell m j
    inside j u v =
        in_level n (j - at) (omega arith) (omega arith)
        (λ i y a b q. let r : at + 2 ^ i + y ≡ j = omega (arith, q) in ap (cell l) (sym r) ∙ h.level i y a b ∙ sym (h'.level i y a b) ∙ ap (cell m) r)

    here : (j : ℕ) → cell l j ≡ cell m j
    here j =
        below_or_not at j (λ u. below_or_not j (at + 2 ^ n) (inside j u) (λ v. h.above j v ∙ sym (h'.above j v)))
        (λ u. h.below j u ∙ sym (h'.below j u))

pub risen_unique : {ws l m : List ℕ} {b n : ℕ} → length l ≡ length m → Risen ws l b n → Risen ws m b n → l ≡ m
risen_unique {ws} {l} {m} {b} {n} e h h' =
    cells_unique l m h.clean h'.clean e
    (λ j. below_or_not j (2 * b) (λ u. h.below j u ∙ sym (h'.below j u))
    (λ u. below_or_not j (2 * b + 4 * (2 * n)) (in_nodes l m b (2 * n) entry j u) (λ v. h.above j (omega arith) ∙ sym (h'.above j (omega arith)))))
  where
    entry : (i : ℕ) → i < 2 * n → claims l b i ≡ claims m b i
    entry i u =
        let y : ℕ = i / 2 in
        let v : y < n = omega arith in
        equal_or_not i (2 * y) (λ q. ap (claims l b) q ∙ h.even y v ∙ sym (h'.even y v) ∙ ap (claims m b) (sym q))
        (λ w. let q : i ≡ 2 * y + 1 = omega arith in ap (claims l b) q ∙ h.odd y v ∙ sym (h'.odd y v) ∙ ap (claims m b) (sym q))

pub folded_unique : {ws l m : List ℕ} {b n : ℕ} {rho : E.Ext} → length l ≡ length m → Folded ws l b n rho → Folded ws m b n rho → l ≡ m
folded_unique {ws} {l} {m} {b} {n} e h h' =
    cells_unique l m h.clean h'.clean e
    (λ j. below_or_not j (2 * b) (λ u. h.below j u ∙ sym (h'.below j u))
    (λ u. below_or_not j (2 * b + 4 * n) (in_nodes l m b n (λ y w. h.nodes y w ∙ sym (h'.nodes y w)) j u) (λ v. h.above j v ∙ sym (h'.above j v))))

pub turn_unique : {r s : Turn} {c x a b : E.Ext} → IsTurn r c x a b → IsTurn s c x a b → r ≡ s
turn_unique h k = λ i. record { c = is_unique h.c k.c i; x = is_unique h.x k.x i; h0 = is_unique h.h0 k.h0 i; h1 = is_unique h.h1 k.h1 i }
