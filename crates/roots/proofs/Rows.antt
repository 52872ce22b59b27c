-- The lowest row over zero is found, or there is none; and there is none exactly where the sum is not over zero.
-- Assumes nothing.
use mathlib.Core.Path.{◌≡◌, refl, sym, ◌∙◌, ap, subst}
use mathlib.Core.Bool.{Bool, true, false, true≢false}
use mathlib.Core.List.{List}
use mathlib.Core.Logic.{◌⊎◌, inl, inr, ⊎_elim}
use Prim.Native.Nat.{ℕ, zero, suc, ◌^◌, ◌<◌, ◌≤◌}
use native.Mathlib.Nat.{eq-or-lt_of_le}
use native.Mathlib.Omega.{arith}
use Rattle.field.specs.Ext as E
use Rattle.field.specs.ExtRing.{same_true, same_of}
use Rattle.gkr.specs.Run.{Frac}
use Rattle.domain.proofs.Tree.{zero_root}
use Rattle.prover_tree.specs.Nodes.{node}
use Rattle.sizes.specs.Sizes.{row_count}
use Rattle.prover_gate.specs.Refusals.{degenerate}
use Rattle.prover.specs.Companions.{Sound, Lowest}
use Rattle.roots.specs.Roots.{OverZero, RowsAndSum}

-- THE TEST OF A ROW

pub nil_of : (f : Frac E.Ext) → degenerate f ≡ true → f.q ≡ E.nil
unfolding degenerate
nil_of f h = same_true f.q E.nil h

pub of_nil : (f : Frac E.Ext) → f.q ≡ E.nil → degenerate f ≡ true
unfolding degenerate
of_nil f h = same_of f.q E.nil h

-- THE LOWEST ROW OVER ZERO

module _ (rows : List ℕ) where
  -- it is below k, or no row below k is over zero
  below : (k : ℕ) → k ≤ row_count rows → ((i : ℕ) × Lowest rows i) ⊎ ((j : ℕ) → j < k → degenerate (node rows j) ≡ false)
  below zero h = inr (λ j l. absurd (omega arith))
  below (suc k) h = go (below k (omega arith)) (degenerate (node rows k)) refl
    where
      go : ((i : ℕ) × Lowest rows i) ⊎ ((j : ℕ) → j < k → degenerate (node rows j) ≡ false) → (b : Bool) → degenerate (node rows k) ≡ b
          → ((i : ℕ) × Lowest rows i) ⊎ ((j : ℕ) → j < suc k → degenerate (node rows j) ≡ false)
      go (inl l) b e = inl l
      go (inr n) true e = inl (k, record { there = h; over_zero = e; below = n })
      go (inr n) false e = inr (λ j l. let m : j ≤ k = omega arith in ⊎_elim (λ (q : j ≡ k). ap (λ i. degenerate (node rows i)) q ∙ e) (λ (q : j < k). n j q) (eq-or-lt_of_le m))

  pub lowest_or_sound : ((i : ℕ) × Lowest rows i) ⊎ Sound rows
  lowest_or_sound = below (row_count rows) (omega arith)

  -- ROWS AND SUM

  module _ (n : ℕ) (size : row_count rows ≡ 2 ^ n) where
    pub sound_sum : Sound rows → ¬ (OverZero rows n)
    sound_sum s e =
        let z = (zero_root (node rows) n).0 e in
        true≢false (sym (of_nil (node rows z.0) z.2) ∙ s z.0 (subst (λ k. z.0 < k) (sym size) z.1))

    pub lowest_sum : (i : ℕ) → Lowest rows i → OverZero rows n
    lowest_sum i l = (zero_root (node rows) n).1 (i, subst (λ k. i < k) size l.there, nil_of (node rows i) l.over_zero)

    sum_sound : ¬ (OverZero rows n) → Sound rows
    sum_sound h = ⊎_elim (λ (l : (i : ℕ) × Lowest rows i). absurd (h (lowest_sum l.0 l.1))) (λ (s : Sound rows). s) lowest_or_sound

pub rows_and_sum : RowsAndSum
rows_and_sum rows n size = (sound_sum rows n size, sum_sound rows n size)
