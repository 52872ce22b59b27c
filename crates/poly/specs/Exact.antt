-- The interpolations: at their own places they have the values that they were given, and they agree with every polynomial of at most their degree.
-- Eq is the value of the weights.
-- Assumes nothing.
use Rattle.std.specs.Prelude.{◌≡◌, List, [], ◌∷◌, length}
use Rattle.std.proofs.Common.{sym}
use Rattle.ring.specs.Ring.{num}
use Rattle.ring.specs.Field.{Field}
use Rattle.ring.proofs.Quote.{ring, quote}
use Rattle.multilinear.specs.Forms
use Rattle.multilinear.specs.Identities
use Rattle.multilinear.specs.Interpolate
use Rattle.multilinear.specs.Table
use Rattle.multilinear.proofs.TableLaws

module _ (F : Field) where
  open F use {ring as K, half, sixth, two_half, six_sixth}
  open F.ring use {carrier as R, nil, one}

  pub linear_values : (e0 e1 : R) → let f = Forms.line K e0 e1 in (f nil ≡ e0) × (f one ≡ e1)
  linear_values e0 e1 = (Identities.line_0 K e0 e1, Identities.line_1 K e0 e1)

  pub quadratic_values : (e0 e1 e2 : R) → let f = Interpolate.quadratic F e0 e1 e2 in (f nil ≡ e0) × ((f one ≡ e1) × (f (num K 2) ≡ e2))
  unfolding Interpolate.quadratic
  quadratic_values e0 e1 e2 = (Identities.quadratic_at_0 K half e0 e1 e2, (Identities.quadratic_at_1 K half e0 e1 e2, Identities.quadratic_at_2 K half e0 e1 e2 two_half))

  pub cubic_values : (e0 e1 e2 e3 : R) → let f = Interpolate.cubic F e0 e1 e2 e3 in (f nil ≡ e0) × ((f one ≡ e1) × ((f (num K 2) ≡ e2) × (f (num K 3) ≡ e3)))
  unfolding Interpolate.cubic
  cubic_values e0 e1 e2 e3 = (
    Identities.cubic_at_0 K half sixth e0 e1 e2 e3,
    (
      Identities.cubic_at_1 K half sixth e0 e1 e2 e3,
      (Identities.cubic_at_2 K half sixth e0 e1 e2 e3 two_half, Identities.cubic_at_3 K half sixth e0 e1 e2 e3 two_half six_sixth),
    ),
  )

  pub linear_exact : (a b x : R) → let f = Forms.poly K a b nil nil in Forms.line K (f nil) (f one) x ≡ f x
  linear_exact a b x = ring K (a ∷ b ∷ x ∷ []) (search quote depth 40 fits 9999) tt

  pub quadratic_exact : (a b c x : R) → let f = Forms.poly K a b c nil in Interpolate.quadratic F (f nil) (f one) (f (num K 2)) x ≡ f x
  unfolding Interpolate.quadratic
  quadratic_exact a b c x = Identities.quadratic_exact K half a b c x two_half

  pub cubic_exact : (a b c d x : R) → let f = Forms.poly K a b c d in Interpolate.cubic F (f nil) (f one) (f (num K 2)) (f (num K 3)) x ≡ f x
  unfolding Interpolate.cubic
  cubic_exact a b c d x = Identities.cubic_exact K half sixth a b c d x two_half six_sixth

  pub eq_is_value : (xs ys : List R) → length xs ≡ length ys → Table.eq K xs ys ≡ Table.value K (Table.weight K xs) ys
  eq_is_value xs ys e = sym (TableLaws.eq_value K xs ys e)
