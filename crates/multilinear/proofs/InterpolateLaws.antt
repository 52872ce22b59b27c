-- Interpolation through 0, 1, 2, 3 is exact for a cubic, and so for a sum of cubics.
-- Assumes nothing.
use Rattle.std.specs.Prelude.{◌≡◌}
use Rattle.std.proofs.Common.{◌∙◌}
use Rattle.std.proofs.Math.Path.{ap₂, fun_ext, subst⁻¹}
use Prim.Native.Nat.{ℕ, zero, suc}
use Rattle.ring.specs.Field.{Field}
use Rattle.multilinear.specs.Forms
use Rattle.multilinear.specs.Identities
use Rattle.multilinear.specs.Table
use Rattle.multilinear.specs.Interpolate

module _ (F : Field) where
  open F use {ring as K, half, sixth, two_half, six_sixth}
  open F.ring use {carrier as R, add as ◌+◌}

  abbrev through : (R → R) → R → R
  through = Interpolate.through F

  pub through_poly : (f : R → R) (a b c d : R) → ((v : R) → f v ≡ Forms.poly K a b c d v) → (x : R) → through f x ≡ f x
  unfolding Interpolate.cubic
  through_poly f a b c d h x =
      subst⁻¹ (λ g. through g x ≡ g x) (fun_ext h) (Identities.cubic_exact K half sixth a b c d x two_half six_sixth)

  pub through_sum : (n : ℕ) (f : ℕ → R → R) (x : R) → ((y : ℕ) → through (f y) x ≡ f y x)
      → through (λ v. Table.sum K n (λ y. f y v)) x ≡ Table.sum K n (λ y. f y x)
  unfolding Interpolate.cubic Table.sum
  through_sum zero f x h = Identities.cubic_nil K half sixth x
  through_sum (suc n) f x h = Identities.cubic_add K half sixth _ _ _ _ _ _ _ _ x ∙ ap₂ ◌+◌ (through_sum n f x h) (h n)
