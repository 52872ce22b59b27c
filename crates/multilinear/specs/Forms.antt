-- The forms that polynomials take here: a line, eq of one bit, a cubic, and the interpolations by forward differences (Newton's form).
-- Assumes nothing.
use Rattle.ring.specs.Ring.{CommRing, num}

module _ (K : CommRing) where
  open K use {carrier as R, add as ◌+◌, mul as ◌*◌, neg, nil, one}

  infixl 65 ◌+◌ ◌-◌
  infixl 70 ◌*◌
  abbrev pub ◌-◌ : R → R → R
  a - b = a + neg b

  -- interpolate_linear_at_01: the line through t0 at 0 and t1 at 1, taken at x
  abbrev pub line : (t0 t1 x : R) → R
  line t0 t1 x = t0 + x * (t1 - t0)

  -- eq of one bit: 1 where two bits agree and 0 where not, linear in both
  abbrev pub agree : (xi rho : R) → R
  agree xi rho = xi * rho + (one - xi) * (one - rho)

  -- the polynomial with the coefficients a, b, c, d, taken at x
  abbrev pub poly : (a b c d x : R) → R
  poly a b c d x = a + x * (b + x * (c + x * d))

  -- interpolate_quadratic_at_012 by forward differences, the first and the second, with the inverse of 2
  abbrev pub quadratic : (half e0 e1 e2 x : R) → R
  quadratic half e0 e1 e2 x =
      let d1 = e1 - e0 in
      let d2 = (e2 - e1) - d1 in
      e0 + x * (d1 + (x - one) * (d2 * half))

  -- interpolate_cubic_at_0123 by forward differences, the first, the second and the third, with the inverses of 2 and 6
  abbrev pub cubic : (half sixth e0 e1 e2 e3 x : R) → R
  cubic half sixth e0 e1 e2 e3 x =
      let d1 = e1 - e0 in
      let d2 = (e2 - e1) - d1 in
      let d3 = ((e3 - e2) - (e2 - e1)) - d2 in
      e0 + x * (d1 + (x - one) * (d2 * half + (x - num K 2) * (d3 * sixth)))
