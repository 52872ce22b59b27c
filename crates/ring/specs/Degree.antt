-- The degrees of the monomials that multiplying out makes are within that of the expression.
-- Assumes nothing.
use Prim.Native.Nat.{ℕ, max, ◌≤◌, compare, Ordering}
use Rattle.std.specs.Prelude.{◌+◌ as ◌+ℕ◌, List}
use Rattle.std.proofs.Common.{le_trans}
use Rattle.std.proofs.Math.Nat.{le-max_left, le-max_right}
use native.Mathlib.Omega.{arith}
use Rattle.ring.specs.Ring.{CommRing}
use Rattle.ring.specs.Expression.{E, var, #◌, 𝟎, 𝟏, ◌⊕◌, ◌⊖◌, ◌⊗◌, ⊝◌, P, none, more, choose, into, merge, flip, scale, times, norm, deg}
use Rattle.ring.specs.Monomial.{size, size_add, size_zero, size_var}
use Rattle.ring.specs.Meaning.{Small}

module _ (R : CommRing) (ρ : List R.carrier) where
  small_up : (d e : ℕ) → d ≤ e → (p : P) → Small R ρ d p → Small R ρ e p
  unfolding Small
  small_up d e h none s = tt
  small_up d e h (more a b m p) s = (le_trans s.0 h, small_up d e h p s.1)

  small_choose : (k : ℕ) (o : Ordering) (a b m : ℕ) (f : P → P) (c d n : ℕ) (g : Unit {0} → P) (q : P) → size R ρ m ≤ k → size R ρ n ≤ k → Small R ρ k q
      → ((r : P) → Small R ρ k r → Small R ρ k (f r)) → Small R ρ k (g tt) → Small R ρ k (choose o a b m f c d n g q)
  unfolding Small
  small_choose k Ordering.lt a b m f c d n g q hm hn hq hf hg = (hm, hf (more c d n q) (hn, hq))
  small_choose k Ordering.eq a b m f c d n g q hm hn hq hf hg = (hm, hf q hq)
  small_choose k Ordering.gt a b m f c d n g q hm hn hq hf hg = (hn, hg)

  small_into : (k : ℕ) (a b m : ℕ) (p : P) (f : P → P) → size R ρ m ≤ k → Small R ρ k p → ((r : P) → Small R ρ k r → Small R ρ k (f r)) → (q : P) → Small R ρ k q → Small R ρ k (into a b m p f q)
  unfolding Small
  small_into k a b m p f hm hp hf none s = (hm, hp)
  small_into k a b m p f hm hp hf (more c d n q) s = small_choose k (compare m n) a b m f c d n (λ t. into a b m p f q) q hm s.0 s.1 hf (small_into k a b m p f hm hp hf q s.1)

  small_merge : (k : ℕ) (p q : P) → Small R ρ k p → Small R ρ k q → Small R ρ k (merge p q)
  unfolding Small
  small_merge k none q s t = t
  small_merge k (more a b m p) q s t = small_into k a b m p (λ r. merge p r) s.0 s.1 (λ r u. small_merge k p r s.1 u) q t

  small_flip : (k : ℕ) (p : P) → Small R ρ k p → Small R ρ k (flip p)
  unfolding Small
  small_flip k none s = tt
  small_flip k (more a b m p) s = (s.0, small_flip k p s.1)

  small_scale : (a b m d e : ℕ) → size R ρ m ≤ d → d +ℕ e ≤ 255 → (q : P) → Small R ρ e q → Small R ρ (d +ℕ e) (scale a b m q)
  unfolding Small
  small_scale a b m d e h l none s = tt
  small_scale a b m d e h l (more x y n q) s = (bound s.0, small_scale a b m d e h l q s.1)
    where
      bound : size R ρ n ≤ e → size R ρ (m +ℕ n) ≤ d +ℕ e
      bound k = let w : size R ρ m +ℕ size R ρ n ≤ 255 = omega arith in omega (arith, size_add R ρ m n w)

  small_times : (d e : ℕ) → d +ℕ e ≤ 255 → (p q : P) → Small R ρ d p → Small R ρ e q → Small R ρ (d +ℕ e) (times p q)
  unfolding Small
  small_times d e l none q s t = tt
  small_times d e l (more a b m p) q s t = small_merge (d +ℕ e) (scale a b m q) (times p q) (small_scale a b m d e s.0 l q t) (small_times d e l p q s.1 t)

  pub norm_small : (e : E) → deg e ≤ 255 → Small R ρ (deg e) (norm e)
  unfolding Small
  norm_small (var i) l = (size_var R ρ i, tt)
  norm_small (# n) l = (omega (arith, size_zero R ρ), tt)
  norm_small 𝟎 l = tt
  norm_small 𝟏 l = (omega (arith, size_zero R ρ), tt)
  norm_small (a ⊕ b) l = small_merge (max (deg a) (deg b)) (norm a) (norm b) (small_up (deg a) (max (deg a) (deg b)) (le-max_left (deg a) (deg b)) (norm a) (norm_small a (omega arith))) (small_up (deg b) (max (deg a) (deg b)) (le-max_right (deg a) (deg b)) (norm b) (norm_small b (omega arith)))
  norm_small (a ⊖ b) l = small_merge (max (deg a) (deg b)) (norm a) (flip (norm b)) (small_up (deg a) (max (deg a) (deg b)) (le-max_left (deg a) (deg b)) (norm a) (norm_small a (omega arith))) (small_flip (max (deg a) (deg b)) (norm b) (small_up (deg b) (max (deg a) (deg b)) (le-max_right (deg a) (deg b)) (norm b) (norm_small b (omega arith))))
  norm_small (a ⊗ b) l = small_times (deg a) (deg b) l (norm a) (norm b) (norm_small a (omega arith)) (norm_small b (omega arith))
  norm_small (⊝ a) l = small_flip (deg a) (norm a) (norm_small a l)
