-- The identities of a commutative ring that tables, interpolation and sumcheck need, each by the solver.
-- Assumes nothing.
use Rattle.std.specs.Prelude.{◌≡◌, [], ◌∷◌}
use Rattle.ring.specs.Ring.{CommRing, num}
use Rattle.ring.proofs.Quote.{ring, ring_by, quote, ◌▷◌}
use Rattle.multilinear.specs.Forms

module _ (K : CommRing) where
  open K use {carrier as R, add as ◌+◌, mul as ◌*◌, neg, nil, one}

  infixl 65 ◌+◌ ◌-◌
  infixl 70 ◌*◌
  abbrev ◌-◌ : R → R → R
  ◌-◌ = Forms.◌-◌ K

  abbrev line : R → R → R → R
  line = Forms.line K

  abbrev agree : R → R → R
  agree = Forms.agree K

  abbrev poly : R → R → R → R → R → R
  poly = Forms.poly K

  abbrev cubic : R → R → R → R → R → R → R → R
  cubic = Forms.cubic K

  abbrev quadratic : R → R → R → R → R → R
  quadratic = Forms.quadratic K

  -- TABLES

  pub alone : (a : R) → nil + a * one ≡ a
  alone a = ring K (a ∷ []) (search quote) tt

  pub weighed : (a b z w : R) → a * ((one - z) * w) + b * (z * w) ≡ line a b z * w
  weighed a b z w = ring K (a ∷ b ∷ z ∷ w ∷ []) (search quote depth 40 fits 9999) tt

  pub spread : (a b c w : R) → (a + c * b) * w ≡ a * w + c * (b * w)
  spread a b c w = ring K (a ∷ b ∷ c ∷ w ∷ []) (search quote depth 40 fits 9999) tt

  pub line_sum : (a b z : R) → line a b z ≡ (a + z * b) + neg z * a
  line_sum a b z = ring K (a ∷ b ∷ z ∷ []) (search quote depth 40 fits 9999) tt

  -- the forms that other places of the Rust take
  pub line_halves : (a b z : R) → line a b z ≡ (one - z) * a + z * b
  line_halves a b z = ring K (a ∷ b ∷ z ∷ []) (search quote depth 40 fits 9999) tt

  pub line_linear : (a b x : R) → line a b x ≡ (b - a) * x + a
  line_linear a b x = ring K (a ∷ b ∷ x ∷ []) (search quote depth 40 fits 9999) tt

  pub agree_mle : (x y : R) → agree x y ≡ one - y - x + num K 2 * (x * y)
  agree_mle x y = ring K (x ∷ y ∷ []) (search quote depth 40 fits 9999) tt

  -- EQ

  pub line_agree : (a z r w : R) → line (a * ((one - z) * w)) (a * (z * w)) r ≡ a * agree z r * w
  line_agree a z r w = ring K (a ∷ z ∷ r ∷ w ∷ []) (search quote depth 40 fits 9999) tt

  -- INTERPOLATION

  pub cubic_exact : (half sixth a b c d x : R) → num K 2 * half ≡ one → num K 6 * sixth ≡ one
      → let f = poly a b c d in cubic half sixth (f nil) (f one) (f (num K 2)) (f (num K 3)) x ≡ f x
  cubic_exact half sixth a b c d x h s =
      ring_by K (half ∷ sixth ∷ a ∷ b ∷ c ∷ d ∷ x ∷ []) ((c + num K 3 * d) * (x * x - x) ▷ h ∷ d * (x * x - x) * (x - num K 2) ▷ s ∷ []) (search quote depth 40 fits 9999) tt

  pub quadratic_exact : (half a b c x : R) → num K 2 * half ≡ one
      → let f = poly a b c nil in quadratic half (f nil) (f one) (f (num K 2)) x ≡ f x
  quadratic_exact half a b c x h = ring_by K (half ∷ a ∷ b ∷ c ∷ x ∷ []) (c * (x * x - x) ▷ h ∷ []) (search quote depth 40 fits 9999) tt

  -- what each interpolation is at its own places: the values that it was given
  pub quadratic_at_0 : (half e0 e1 e2 : R) → quadratic half e0 e1 e2 nil ≡ e0
  quadratic_at_0 half e0 e1 e2 = ring K (half ∷ e0 ∷ e1 ∷ e2 ∷ []) (search quote depth 40 fits 9999) tt

  pub quadratic_at_1 : (half e0 e1 e2 : R) → quadratic half e0 e1 e2 one ≡ e1
  quadratic_at_1 half e0 e1 e2 = ring K (half ∷ e0 ∷ e1 ∷ e2 ∷ []) (search quote depth 40 fits 9999) tt

  pub quadratic_at_2 : (half e0 e1 e2 : R) → num K 2 * half ≡ one → quadratic half e0 e1 e2 (num K 2) ≡ e2
  quadratic_at_2 half e0 e1 e2 h = ring_by K (half ∷ e0 ∷ e1 ∷ e2 ∷ []) ((e2 - e1 - (e1 - e0)) ▷ h ∷ []) (search quote depth 40 fits 9999) tt

  pub cubic_at_0 : (half sixth e0 e1 e2 e3 : R) → cubic half sixth e0 e1 e2 e3 nil ≡ e0
  cubic_at_0 half sixth e0 e1 e2 e3 = ring K (half ∷ sixth ∷ e0 ∷ e1 ∷ e2 ∷ e3 ∷ []) (search quote depth 40 fits 9999) tt

  pub cubic_at_1 : (half sixth e0 e1 e2 e3 : R) → cubic half sixth e0 e1 e2 e3 one ≡ e1
  cubic_at_1 half sixth e0 e1 e2 e3 = ring K (half ∷ sixth ∷ e0 ∷ e1 ∷ e2 ∷ e3 ∷ []) (search quote depth 40 fits 9999) tt

  pub cubic_at_2 : (half sixth e0 e1 e2 e3 : R) → num K 2 * half ≡ one → cubic half sixth e0 e1 e2 e3 (num K 2) ≡ e2
  cubic_at_2 half sixth e0 e1 e2 e3 h =
      ring_by K (half ∷ sixth ∷ e0 ∷ e1 ∷ e2 ∷ e3 ∷ []) ((e2 - e1 - (e1 - e0)) ▷ h ∷ []) (search quote depth 40 fits 9999) tt

  pub cubic_at_3 : (half sixth e0 e1 e2 e3 : R) → num K 2 * half ≡ one → num K 6 * sixth ≡ one → cubic half sixth e0 e1 e2 e3 (num K 3) ≡ e3
  cubic_at_3 half sixth e0 e1 e2 e3 h s =
      let d2 = e2 - e1 - (e1 - e0) in
      let d3 = e3 - e2 - (e2 - e1) - d2 in
      ring_by K (half ∷ sixth ∷ e0 ∷ e1 ∷ e2 ∷ e3 ∷ []) (num K 3 * d2 ▷ h ∷ d3 ▷ s ∷ []) (search quote depth 40 fits 9999) tt

  -- the coefficients p, q, r of the Rust give the same, at every input
  pub quadratic_by_coefficients : (half e0 e1 e2 x : R)
      → let s1 = e1 - e0 in
      let p = (e2 - e1 - s1) * half in
      (p * x + (s1 - p)) * x + e0 ≡ quadratic half e0 e1 e2 x
  quadratic_by_coefficients half e0 e1 e2 x = ring K (half ∷ e0 ∷ e1 ∷ e2 ∷ x ∷ []) (search quote depth 40 fits 9999) tt

  pub cubic_by_coefficients : (half sixth e0 e1 e2 e3 x : R) → num K 2 * half ≡ one → num K 6 * sixth ≡ one
      → let s1 = e1 - e0 in
      let s2 = e2 - e0 in
      let d3 = e3 - e0 - (s2 - s1) * num K 3 in
      let p = d3 * sixth in
      let q = (s2 - d3) * half - s1 in
      ((p * x + q) * x + (s1 - p - q)) * x + e0 ≡ cubic half sixth e0 e1 e2 e3 x
  cubic_by_coefficients half sixth e0 e1 e2 e3 x h s =
      let d1 = e1 - e0 in
      let d3 = e3 - e2 - (e2 - e1) - (e2 - e1 - d1) in
      ring_by K (half ∷ sixth ∷ e0 ∷ e1 ∷ e2 ∷ e3 ∷ x ∷ []) ((x * x - x) * (d1 - num K 3 * sixth * d3) ▷ h ∷ (x * x - x) * d3 * half ▷ s ∷ []) (search quote depth 40 fits 9999) tt

  pub cubic_nil : (half sixth x : R) → cubic half sixth nil nil nil nil x ≡ nil
  cubic_nil half sixth x = ring K (half ∷ sixth ∷ x ∷ []) (search quote depth 40 fits 9999) tt

  pub cubic_add : (half sixth e0 e1 e2 e3 f0 f1 f2 f3 x : R)
      → cubic half sixth (e0 + f0) (e1 + f1) (e2 + f2) (e3 + f3) x ≡ cubic half sixth e0 e1 e2 e3 x + cubic half sixth f0 f1 f2 f3 x
  cubic_add half sixth e0 e1 e2 e3 f0 f1 f2 f3 x =
      ring K (half ∷ sixth ∷ e0 ∷ e1 ∷ e2 ∷ e3 ∷ f0 ∷ f1 ∷ f2 ∷ f3 ∷ x ∷ []) (search quote depth 40 fits 9999) tt

  -- THE SUMCHECK

  pub line_0 : (a b : R) → line a b nil ≡ a
  line_0 a b = ring K (a ∷ b ∷ []) (search quote depth 40 fits 9999) tt

  pub line_1 : (a b : R) → line a b one ≡ b
  line_1 a b = ring K (a ∷ b ∷ []) (search quote depth 40 fits 9999) tt

  pub cancel : (a b : R) → a + b - b ≡ a
  cancel a b = ring K (a ∷ b ∷ []) (search quote) tt

  pub last : (a c : R) → nil + a * one * c ≡ c * a
  last a c = ring K (a ∷ c ∷ []) (search quote) tt

  -- The summand is a cubic in x. The columns rise from e, p, q, r, s (for eq, p0, q0, p1, q1) by e', p', q', r', s'.
  pub summand : (l e e' p p' q q' r r' s s' x : R)
      → let n0 = p * s + r * q + l * (q * s) in
      let n1 = p * s' + p' * s + r * q' + r' * q + l * (q * s' + q' * s) in
      let n2 = p' * s' + r' * q' + l * (q' * s') in
      (e + x * e') * ((p + x * p') * (s + x * s') + (r + x * r') * (q + x * q') + l * ((q + x * q') * (s + x * s')))
      ≡ poly (e * n0) (e * n1 + e' * n0) (e * n2 + e' * n1) (e' * n2) x
  summand l e e' p p' q q' r r' s s' x =
      ring K (l ∷ e ∷ e' ∷ p ∷ p' ∷ q ∷ q' ∷ r ∷ r' ∷ s ∷ s' ∷ x ∷ []) (search quote depth 40 fits 9999) tt
