-- The fraction tree: a node is the sum of its two children, not reduced; the leaves are the rows.
-- Assumes nothing.
use Rattle.std.specs.Prelude.{List, ℕ, zero, suc}
use Rattle.ring.specs.Ring.{CommRing}
use Rattle.multilinear.specs.Table
use Rattle.multilinear.specs.Table.{even, odd}
use Rattle.multilinear.specs.RoundSum.{Claims}
use Rattle.multilinear.specs.Forms
use Rattle.gkr.specs.Run.{Frac}

module _ (K : CommRing) where
  open K use {carrier as R, add as ◌+◌, mul as ◌*◌}

  infixl 65 ◌+◌
  infixl 70 ◌*◌
  -- the sum of two fractions, not reduced: (p, q) + (p', q') = (p·q' + q·p', q·q')
  abbrev pub plus : (a b : Frac R) → Frac R
  plus a b = record { p = a.p * b.q + a.q * b.p; q = a.q * b.q }

  -- the sum of the left and the right fraction that the claims name
  abbrev pub compute_recursive_relations : (c : Claims R) → Frac R
  compute_recursive_relations c = record { p = c.p0 * c.q1 + c.p1 * c.q0; q = c.q0 * c.q1 }

  -- the fractions 2y (left) and 2y + 1 (right) of f
  abbrev pub children : (f : ℕ → Frac R) (y : ℕ) → Claims R
  children f y = record { p0 = (f (even y)).p; q0 = (f (even y)).q; p1 = (f (odd y)).p; q1 = (f (odd y)).q }

  -- the nodes at height h over the rows f: over 2^n rows, node 2^(n - h) + i of document 01 (TreeLaws.heap); the root is tree f n 0
  unfoldable pub tree : (f : ℕ → Frac R) (h i : ℕ) → Frac R
  tree f zero i = f i
  tree f (suc h) i = compute_recursive_relations (children (tree f h) i)

  -- the values of the columns p and q at a point: plain sums over all rows
  abbrev pub value : (f : ℕ → Frac R) (zs : List R) → Frac R
  value f zs = record { p = Table.value K (λ i. (f i).p) zs; q = Table.value K (λ i. (f i).q) zs }

  -- the claims on the left and the right, brought together at mu
  abbrev pub reduce_to_single_evaluation : (c : Claims R) (mu : R) → Frac R
  reduce_to_single_evaluation c mu = record { p = Forms.line K c.p0 c.p1 mu; q = Forms.line K c.q0 c.q1 mu }
