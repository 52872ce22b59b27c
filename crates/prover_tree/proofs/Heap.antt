-- The tree over the rows is the model's; and a slice cleared word by word.
-- Assumes nothing.
use mathlib.Core.Path.{◌≡◌, sym, ◌∙◌, ap, subst}
use mathlib.Core.List.{List}
use Prim.Native.Nat.{ℕ, ◌+◌, ◌*◌, ◌<◌, ◌≤◌}
use native.Mathlib.Omega.{arith}
use borrow.Author.Count.{below_more}
use lib.ListN.{length, get_or, set, replicate, length-replicate, get_or-replicate}
use lib.Seq.{get_or-set_same, get_or-set_other, ext_get_or}
use Rattle.field.specs.ExtRing.{ExtRing}
use Rattle.field.specs.Cells.{cell}
use Rattle.gkr.specs.TreeLaws as TreeLaws
use Rattle.prover_tree.specs.Nodes.{node, Filled, Summed, Built}

-- leaves and sums make the tree
pub built : (rows ws ws₁ ws₂ : List ℕ) (size : ℕ) → Filled ws ws₁ (2 * size) (2 * size) (cell rows) → Summed ws₁ ws₂ 1 size → Built rows ws ws₂ size
built rows ws ws₁ ws₂ size f s = record {
  clean = s.clean;
  nodes = λ n h d i e q l.
      TreeLaws.heap ExtRing n (node rows) (node ws₂)
      (λ i l. let w : i < size = subst (λ k. i < k) (sym e) l in
      ap (λ k. node ws₂ (k + i)) (sym e)
      ∙ (λ t. record {
        p = (s.above (2 * (size + i)) (omega arith) ∙ leaf (2 * i) (2 * (size + i)) (omega arith) (omega arith)) t;
        q = (s.above (2 * (size + i) + 1) (omega arith) ∙ leaf (2 * i + 1) (2 * (size + i) + 1) (omega arith) (omega arith)) t;
      }))
      (λ k a b. s.inner k a (subst (λ m. k < m) (sym e) b))
      h d q i l;
  above = λ j l. s.above j (omega arith) ∙ f.above j (omega arith);
}
  where
    leaf : (i j : ℕ) → j ≡ 2 * size + i → i < 2 * size → cell ws₁ j ≡ cell rows i
    leaf i j e l = ap (cell ws₁) e ∙ f.filled i l

-- words made zero from the front
pub zeros_next : (l : List ℕ) (i : ℕ) → i < length l → ((k : ℕ) → k < i → get_or l k 0 ≡ 0) → (k : ℕ) → k < i + 1 → get_or (set l i 0) k 0 ≡ 0
zeros_next l i u h = below_more (λ k. get_or (set l i 0) k 0 ≡ 0) i (λ k v. get_or-set_other l i k 0 0 (λ q. omega arith) ∙ h k v) (get_or-set_same l i 0 0 u)

pub zeros_all : (l : List ℕ) (n i : ℕ) → length l ≡ n → n ≤ i → ((k : ℕ) → k < i → get_or l k 0 ≡ 0) → l ≡ replicate n 0
zeros_all l n i e u h = ext_get_or 0 l (replicate n 0) (e ∙ sym (length-replicate n 0)) (λ k v. h k (omega arith) ∙ sym (get_or-replicate n k 0 0 (omega arith)))
