-- The examples of docs/RING.md: identities of this work over any commutative ring, each in one line.
-- Assumes nothing.
use Rattle.std.specs.Prelude.{◌≡◌, [], ◌∷◌}
use Rattle.ring.specs.Ring.{CommRing, num, sub}
use Rattle.ring.proofs.Quote.{ring, ring_by, quote, ◌▷◌}
use Rattle.ring.specs.Expression.{#◌, 𝟏, ◌⊕◌, ◌⊖◌, ◌⊗◌}
use Rattle.ring.specs.Variables.{x0, x1, x2}
use Rattle.ring.proofs.Solver.{solve, combine, ⟨◌·◌≈◌⟩}

module _ (R : CommRing) where
  infixl 60 ◌+◌ ◌−◌
  infixl 70 ◌*◌
  open R use {carrier as A, add as ◌+◌, mul as ◌*◌, one as 𝟙}

  abbrev ◌−◌ : A → A → A
  a − b = sub R a b

  -- a fold is a weighted sum
  fold_is : (t0 t1 r : A) → t0 + r * (t1 − t0) ≡ (𝟙 − r) * t0 + r * t1
  fold_is t0 t1 r = ring R (t0 ∷ t1 ∷ r ∷ []) (search quote) tt

  -- fractions are added in any grouping: the numerator
  frac_assoc : (p q p' q' p'' q'' : A) → (p * q' + q * p') * q'' + q * q' * p'' ≡ p * (q' * q'') + q * (p' * q'' + q' * p'')
  frac_assoc p q p' q' p'' q'' = ring R (p ∷ q ∷ p' ∷ q' ∷ p'' ∷ q'' ∷ []) (search quote depth 40 fits 9999) tt

  -- with a hypothesis: h is the half of one
  halves : (a b h : A) → num R 2 * h ≡ 𝟙 → (a + b) * h + (a − b) * h ≡ a
  halves a b h e = ring_by R (a ∷ b ∷ h ∷ []) (a ▷ e ∷ []) (search quote) tt

  -- the same two ways with the expressions written out
  square : (a b : A) → (a + b) * (a + b) ≡ a * a + num R 2 * (a * b) + b * b
  square a b = solve R (a ∷ b ∷ []) ((x0 ⊕ x1) ⊗ (x0 ⊕ x1)) (x0 ⊗ x0 ⊕ # 2 ⊗ (x0 ⊗ x1) ⊕ x1 ⊗ x1) tt

  halves' : (a b h : A) → num R 2 * h ≡ 𝟙 → (a + b) * h + (a − b) * h ≡ a
  halves' a b h e = combine R (a ∷ b ∷ h ∷ []) (⟨ x0 · # 2 ⊗ x2 ≈ 𝟏 ⟩ ∷ []) ((x0 ⊕ x1) ⊗ x2 ⊕ (x0 ⊖ x1) ⊗ x2) x0 tt e
