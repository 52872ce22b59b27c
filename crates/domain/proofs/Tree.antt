-- The root of a fraction tree is over zero exactly where a row is.
-- Assumes nothing.
use Rattle.std.specs.Prelude.{◌≡◌, ◌⊎◌, ◌↔◌}
use Rattle.std.proofs.Math.Path.{refl, ap, fun_ext, subst}
use Rattle.std.proofs.Common.{sym, ◌∙◌, inl, inr}
use Prim.Native.Nat.{ℕ, zero, suc, ◌<◌, ◌^◌, ◌/◌, ◌%◌}
use Rattle.std.proofs.Math.Decide.{ℕ_discrete}
use native.Mathlib.Omega.{arith}
use Rattle.ring.specs.Ring.{CommRing}
use Rattle.ring.specs.RingLaws.{mul_nil, nil_mul}
use Rattle.field.specs.Ext as E
use Rattle.field.specs.ExtRing.{ExtRing}
use Rattle.multilinear.specs.Table.{even, odd}
use Rattle.gkr.specs.Run.{Frac}
use Rattle.gkr.specs.Tree as Tree
use Rattle.domain.specs.Field.{Domain}
use Rattle.domain.proofs.Extension.{ext_domain}
use Rattle.domain.specs.Rows.{ZeroRow}

module _ (K : CommRing) where
  open K use {carrier as R, mul as ◌*◌, nil}

  infixl 70 ◌*◌
  -- the rows, summed by pairs: half as many, and a tree one lower
  abbrev pub paired : (f : ℕ → Frac R) (y : ℕ) → Frac R
  paired f y = Tree.compute_recursive_relations K (Tree.children K f y)

  pub tree_paired : (f : ℕ → Frac R) (h i : ℕ) → Tree.tree K f (suc h) i ≡ Tree.tree K (paired f) h i
  unfolding Tree.tree
  tree_paired f zero i = refl
  tree_paired f (suc h) i = ap (λ g. paired g i) (fun_ext (tree_paired f h))

  from_row : (f : ℕ → Frac R) (n i : ℕ) → i < 2 ^ n → (f i).q ≡ nil → (Tree.tree K f n 0).q ≡ nil
  unfolding Tree.tree
  from_row f zero i l e = subst (λ k. (f k).q ≡ nil) (omega arith) e
  from_row f (suc n) i l e = ap (λ t. t.q) (tree_paired f n 0) ∙ from_row (paired f) n (i / 2) (omega arith) (go (ℕ_discrete (i % 2) 0))
    where
      go : Dec (i % 2 ≡ 0) → (paired f (i / 2)).q ≡ nil
      go (yes z) = ap (λ t. t * (f (odd (i / 2))).q) (subst (λ k. (f k).q ≡ nil) (omega arith) e) ∙ nil_mul K _
      go (no z) = ap (λ t. (f (even (i / 2))).q * t) (subst (λ k. (f k).q ≡ nil) (omega arith) e) ∙ mul_nil K _

  module _ (D : Domain K) where
    to_row : (f : ℕ → Frac R) (n : ℕ) → (Tree.tree K f n 0).q ≡ nil → ZeroRow K f (2 ^ n)
    unfolding Tree.tree
    to_row f zero e = (0, omega arith, e)
    to_row f (suc n) e =
        let r = to_row (paired f) n (ap (λ t. t.q) (sym (tree_paired f n 0)) ∙ e) in
        go r.0 r.1 (D.no_zero (f (even r.0)).q (f (odd r.0)).q r.2)
      where
        go : (i : ℕ) → i < 2 ^ n → ((f (even i)).q ≡ nil) ⊎ ((f (odd i)).q ≡ nil) → ZeroRow K f (2 ^ suc n)
        go i l (inl z) = (even i, omega arith, z)
        go i l (inr z) = (odd i, omega arith, z)

    -- where there are no zero divisors
    pub root_over_zero : (f : ℕ → Frac R) (n : ℕ) → ((Tree.tree K f n 0).q ≡ nil) ↔ ZeroRow K f (2 ^ n)
    root_over_zero f n = (to_row f n, λ r. from_row f n r.0 r.1 r.2)

-- A ROOT OVER ZERO MEANS A ROW OVER ZERO, and a row over zero a root over zero
pub zero_root : (f : ℕ → Frac E.Ext) (n : ℕ) → ((Tree.tree ExtRing f n 0).q ≡ E.nil) ↔ ZeroRow ExtRing f (2 ^ n)
zero_root = root_over_zero ExtRing ext_domain
