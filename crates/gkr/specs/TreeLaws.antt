-- The laws of the fraction tree: one numbering of all nodes, and the two facts of a layer that the run rests on.
-- Assumes nothing.
use Rattle.std.specs.Prelude.{◌≡◌, List, ◌∷◌, ◌+◌ as ◌+ℕ◌, length}
use Rattle.std.proofs.Math.Path.{sym, ap, ap₂}
use Rattle.std.proofs.Common.{◌∙◌, subst}
use Prim.Native.Nat.{ℕ, zero, suc, ◌≤◌, ◌<◌, ◌^◌}
use Rattle.std.proofs.Math.Nat.{pow-le-pow_right}
use Rattle.std.proofs.Math.Bridge.{le_by_compare, IsLe}
use native.Mathlib.Omega.{arith}
use Rattle.std.proofs.Math.Pow.{pow_pos}
use Rattle.ring.specs.Ring.{CommRing}
use Rattle.multilinear.specs.Forms
use Rattle.multilinear.specs.Table
use Rattle.multilinear.specs.Table.{even, odd}
use Rattle.multilinear.proofs.TableLaws
use Rattle.multilinear.specs.RoundSum
use Rattle.multilinear.specs.RoundSum.{Claims}
use Rattle.gkr.specs.Run.{Frac}
use Rattle.gkr.specs.Tree

room : (d h n : ℕ) → d +ℕ suc h ≡ n → suc d ≤ n
room d h n e = omega arith

module _ (K : CommRing) where
  open K use {carrier as R, add as ◌+◌, mul as ◌*◌, mul_comm}

  infixl 65 ◌+◌
  infixl 70 ◌*◌
  abbrev compute_recursive_relations : Claims R → Frac R
  compute_recursive_relations = Tree.compute_recursive_relations K

  abbrev children : (ℕ → Frac R) → ℕ → Claims R
  children = Tree.children K

  abbrev tree : (ℕ → Frac R) → ℕ → ℕ → Frac R
  tree = Tree.tree K

  abbrev value : (ℕ → Frac R) → List R → Frac R
  value = Tree.value K

  abbrev reduce_to_single_evaluation : Claims R → R → Frac R
  reduce_to_single_evaluation = Tree.reduce_to_single_evaluation K

  -- a node is the sum of its two children
  pub node_plus : (f : ℕ → Frac R) (h i : ℕ) → tree f (suc h) i ≡ Tree.plus K (tree f h (even i)) (tree f h (odd i))
  unfolding Tree.tree
  node_plus f h i =
      let a = tree f h (even i) in
      let b = tree f h (odd i) in
      ap (λ x. record { p = a.p * b.q + x; q = a.q * b.q }) (mul_comm b.p a.q)

  -- One numbering of all nodes: row i is node 2 ^ n + i, and node k is the sum of the nodes 2k and 2k + 1. Then node 2 ^ d + i is node i at height n - d.
  pub heap : (n : ℕ) (f node : ℕ → Frac R)
      → ((i : ℕ) → i < 2 ^ n → node (2 ^ n +ℕ i) ≡ f i)
      → ((k : ℕ) → 1 ≤ k → k < 2 ^ n → node k ≡ compute_recursive_relations (children node k))
      → (h d : ℕ) → d +ℕ h ≡ n → (i : ℕ) → i < 2 ^ d → node (2 ^ d +ℕ i) ≡ tree f h i
  unfolding Tree.tree IsLe
  heap n f node leaf inner zero d e i l =
      let p : d ≡ n = omega arith in
      ap (λ k. node (2 ^ k +ℕ i)) p ∙ leaf i (subst (λ k. i < 2 ^ k) p l)
  heap n f node leaf inner (suc h) d e i l =
      inner (2 ^ d +ℕ i) (omega (arith, pow_pos d)) (omega (arith, pow-le-pow_right (le_by_compare 1 2 tt) (room d h n e)))
      ∙ ap₂ (λ a b. compute_recursive_relations (record { p0 = a.p; q0 = a.q; p1 = b.p; q1 = b.q }))
      (ap node (TableLaws.even_top d i) ∙ heap n f node leaf inner h (suc d) (omega arith) (even i) (omega arith))
      (ap node (TableLaws.odd_top d i) ∙ heap n f node leaf inner h (suc d) (omega arith) (odd i) (omega arith))

  -- TWO FACTS OF A LAYER g, on which the honest run rests, and soundness, with RoundSumLaws.claim-last

  -- the batched claim on the layer above is what the sumcheck sums over g
  pub claim_total : (g : ℕ → Frac R) (lambda : R) (xi : List R) → let v = value (λ y. compute_recursive_relations (children g y)) xi in
      v.p + lambda * v.q ≡ RoundSum.total K (length xi) lambda (Table.weight K xi) (children g)
  unfolding Table.value RoundSum.total
  claim_total g lambda xi =
      sym (TableLaws.value_linear K (λ y. (compute_recursive_relations (children g y)).p) (λ y. (compute_recursive_relations (children g y)).q) lambda xi)
      ∙ TableLaws.sum_cong K _ (λ y. mul_comm _ _)

  -- the values of left and right children at a point, brought together at mu, are the values of g at mu and that point
  pub reduce_value : (g : ℕ → Frac R) (mu : R) (xi : List R) → reduce_to_single_evaluation (RoundSum.values K (children g) xi) mu ≡ value g (mu ∷ xi)
  unfolding Table.fold
  reduce_value g mu xi = λ i. record { p = column (λ y. (g y).p) i; q = column (λ y. (g y).q) i }
    where
      column : (t : ℕ → R) → Forms.line K (Table.value K (λ y. t (even y)) xi) (Table.value K (λ y. t (odd y)) xi) mu ≡ Table.value K t (mu ∷ xi)
      column t = sym (TableLaws.value_fold K t mu xi ∙ TableLaws.value_line K (λ y. t (even y)) (λ y. t (odd y)) mu xi)
