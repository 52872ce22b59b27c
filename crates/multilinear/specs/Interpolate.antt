-- Interpolation over a field: interpolate_cubic_at_0123 and its like, with the field's own inverses of 2 and 6.
-- Assumes nothing.
use Rattle.ring.specs.Ring.{num}
use Rattle.ring.specs.Field.{Field}
use Rattle.multilinear.specs.Forms

module _ (F : Field) where
  open F use {ring as K, half, sixth}
  open F.ring use {carrier as R, nil, one}

  unfoldable pub cubic : (e0 e1 e2 e3 x : R) → R
  cubic = Forms.cubic K half sixth

  unfoldable pub quadratic : (e0 e1 e2 x : R) → R
  quadratic = Forms.quadratic K half

  -- what is found at x from the values of f at 0, 1, 2, 3
  abbrev pub through : (f : R → R) (x : R) → R
  through f = cubic (f nil) (f one) (f (num K 2)) (f (num K 3))
