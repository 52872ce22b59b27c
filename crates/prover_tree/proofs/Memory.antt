-- What stores and sums leave of a workspace's nodes.
-- Assumes nothing.
use mathlib.Core.Path.{◌≡◌, refl, sym, ◌∙◌, ap, subst}
use mathlib.Core.List.{List}
use mathlib.Core.Logic.{⊎_elim}
use Prim.Native.Nat.{ℕ, ◌+◌, ◌*◌, ◌<◌, ◌≤◌}
use native.Mathlib.Nat.{not-suc-le-zero, eq-or-lt_of_le}
use native.Mathlib.Omega.{arith}
use borrow.Author.Count.{below_more}
use Rattle.field.specs.Ext as E
use Rattle.field.specs.ExtRing.{ExtRing}
use Rattle.field.specs.Element.{dec}
use Rattle.field.specs.Cells.{cell, Clean, Stored}
use Rattle.multilinear.specs.RoundSum.{Claims}
use Rattle.gkr.specs.Run.{Frac}
use Rattle.gkr.specs.Tree as Tree
use Rattle.step.specs.declared.Frac.{Frac as FracW}
use Rattle.step.specs.Values.{IsFrac, dec_frac}
use Rattle.prover_tree.specs.Nodes.{node, StoredNode, Filled, Summed}

-- AN AREA FILLED FROM ITS FRONT
pub fill_none : (ws : List ℕ) (at : ℕ) (t : ℕ → E.Ext) → Clean ws → Filled ws ws at 0 t
fill_none ws at t h = record { clean = h; filled = λ i l. absurd (not-suc-le-zero l); below = λ j l. refl; above = λ j l. refl }

pub fill_next : (ws₀ ws ws' : List ℕ) (at n : ℕ) (t : ℕ → E.Ext) (x : E.Ext) → Filled ws₀ ws at n t → Stored ws ws' (at + n) x → x ≡ t n → Filled ws₀ ws' at (n + 1) t
fill_next ws₀ ws ws' at n t x f s e =
    record {
      clean = s.clean;
      filled = below_more (λ i. cell ws' (at + i) ≡ t i) n (λ i l. s.rest (at + i) (λ q. omega arith) ∙ f.filled i l) (s.here ∙ e);
      below = λ j l. s.rest j (λ q. omega arith) ∙ f.below j l;
      above = λ j l. s.rest j (λ q. omega arith) ∙ f.above j (omega arith);
    }

-- THE TREE
pub sum_none : (ws : List ℕ) (size : ℕ) → Clean ws → Summed ws ws size size
sum_none ws size h = record { clean = h; inner = λ k a b. absurd (omega arith); above = λ j l. refl }

abbrev childs : List ℕ → ℕ → Claims E.Ext
childs ws k = Tree.children ExtRing (node ws) k

-- cells from `from` on that are as before leave the nodes there as before
node_kept : (ws ws' : List ℕ) (from k : ℕ) → ((j : ℕ) → from ≤ j → cell ws' j ≡ cell ws j) → from ≤ 2 * k → node ws' k ≡ node ws k
node_kept ws ws' from k h l = λ t. record { p = h (2 * k) l t; q = h (2 * k + 1) (omega arith) t }

childs_kept : (ws ws' : List ℕ) (from k : ℕ) → ((j : ℕ) → from ≤ j → cell ws' j ≡ cell ws j) → from ≤ 2 * (2 * k) → childs ws' k ≡ childs ws k
childs_kept ws ws' from k h l = λ t. record { p0 = h (2 * (2 * k)) l t; q0 = h (2 * (2 * k) + 1) (omega arith) t; p1 = h (2 * (2 * k + 1)) (omega arith) t; q1 = h (2 * (2 * k + 1) + 1) (omega arith) t }

pub sum_next : (ws₀ ws ws' : List ℕ) (k m size : ℕ) → k ≡ m + 1 → 1 ≤ m → k ≤ size
    → Summed ws₀ ws k size → StoredNode ws ws' m (Tree.compute_recursive_relations ExtRing (childs ws m)) → Summed ws₀ ws' m size
sum_next ws₀ ws ws' k m size e l u s p =
    record {
      clean = p.clean;
      inner = λ i a b.
          ⊎_elim
          (λ (h : m ≡ i). subst (λ i. node ws' i ≡ Tree.compute_recursive_relations ExtRing (childs ws' i)) h (p.here ∙ ap (Tree.compute_recursive_relations ExtRing) (sym (childs_kept ws ws' (2 * m + 2) m kept (omega arith)))))
          (λ (h : m < i).
          node_kept ws ws' (2 * m + 2) i kept (omega arith) ∙ s.inner i (omega arith) b
          ∙ ap (Tree.compute_recursive_relations ExtRing) (sym (childs_kept ws ws' (2 * m + 2) i kept (omega arith))))
          (eq-or-lt_of_le a);
      above = λ j h. kept j (omega arith) ∙ s.above j h;
    }
  where
    kept : (j : ℕ) → 2 * m + 2 ≤ j → cell ws' j ≡ cell ws j
    kept j h = p.rest j (λ r. omega arith) (λ r. omega arith)

pub node_stored : (ws ws₁ ws₂ : List ℕ) (k : ℕ) (x : Frac E.Ext) → Stored ws ws₁ (2 * k) x.p → Stored ws₁ ws₂ (2 * k + 1) x.q → StoredNode ws ws₂ k x
node_stored ws ws₁ ws₂ k x a b =
    record {
      clean = b.clean;
      here = λ t. record { p = (b.rest (2 * k) (λ r. omega arith) ∙ a.here) t; q = b.here t };
      rest = λ j p q. b.rest j q ∙ a.rest j p;
    }

pub frac_path : {r : FracW} {x : Frac E.Ext} → IsFrac r x → dec_frac r ≡ x
frac_path h = λ t. record { p = h.p.value t; q = h.q.value t }

pub sum_stored : (ws ws' : List ℕ) (k : ℕ) (f a b : FracW) → StoredNode ws ws' k (dec_frac f)
    → IsFrac f (Tree.compute_recursive_relations ExtRing (record { p0 = dec a.p; q0 = dec a.q; p1 = dec b.p; q1 = dec b.q }))
    → IsFrac a (node ws (2 * k)) → IsFrac b (node ws (2 * k + 1)) → StoredNode ws ws' k (Tree.compute_recursive_relations ExtRing (childs ws k))
sum_stored ws ws' k f a b s h p q =
    subst (StoredNode ws ws' k)
    (frac_path h ∙ (λ t. Tree.compute_recursive_relations ExtRing (record { p0 = p.p.value t; q0 = p.q.value t; p1 = q.p.value t; q1 = q.q.value t })))
    s

pub sum_all : (ws₀ ws : List ℕ) (k size : ℕ) → k ≤ 1 → Summed ws₀ ws k size → Summed ws₀ ws 1 size
sum_all ws₀ ws k size h s = record { clean = s.clean; inner = λ i a b. s.inner i (omega arith) b; above = s.above }
