-- At how many points two lines, or two cubics by their values at 0, 1, 2, 3, can agree.
-- Assumes nothing.
use Rattle.std.specs.Prelude.{◌≡◌}
use mathlib.Core.List.{List, [], ◌∷◌}
use Rattle.std.proofs.Common.{arith}
use Rattle.ring.specs.Ring.{num}
use Rattle.ring.specs.RingLaws.{eq_of_sub}
use Rattle.ring.specs.Field.{Field}
use Rattle.ring.proofs.Quote.{ring, ring_by, quote, ◌▷◌}
use Rattle.multilinear.specs.Forms
use Rattle.multilinear.specs.Interpolate
use Rattle.domain.specs.Field.{Domain}
use Rattle.soundness.specs.Few.{AtMost}
use Rattle.soundness.specs.FewLaws.{at_most_sub}
use Rattle.soundness.specs.Roots.{eval, few_roots}

module _ (F : Field) (D : Domain F.ring) where
  open F use {ring as K, half, sixth, two_half, six_sixth}
  open F.ring use {carrier as R, add as ◌+◌, mul as ◌*◌, neg, nil, one}

  infixl 65 ◌+◌ ◌-◌
  infixl 70 ◌*◌
  abbrev ◌-◌ : R → R → R
  ◌-◌ = Forms.◌-◌ K

  -- two different lines a + x·b agree at most once
  pub few_lines : (a b c d : R) → ¬ ((a ≡ c) × (b ≡ d)) → AtMost 1 (λ x. a + x * b ≡ c + x * d)
  few_lines a b c d n =
      at_most_sub 1 (λ x. eval K ((a - c) ∷ (b - d) ∷ []) x ≡ nil) (λ x. a + x * b ≡ c + x * d)
      (λ x e. ring_by K (a ∷ b ∷ c ∷ d ∷ x ∷ []) (one ▷ e ∷ []) (search quote depth 40 fits 9999) tt)
      (few_roots K D 1 ((a - c) ∷ (b - d) ∷ []) (omega arith) (λ z. n (eq_of_sub K a c z.0, eq_of_sub K b d z.1.0)))

  -- two different cubics at most three times
  pub few_cubics : (e0 e1 e2 e3 f0 f1 f2 f3 : R) → ¬ ((e0 ≡ f0) × (e1 ≡ f1) × (e2 ≡ f2) × (e3 ≡ f3))
      → AtMost 3 (λ x. Interpolate.cubic F e0 e1 e2 e3 x ≡ Interpolate.cubic F f0 f1 f2 f3 x)
  unfolding Interpolate.cubic
  few_cubics e0 e1 e2 e3 f0 f1 f2 f3 n =
      let g0 = e0 - f0 in
      let g1 = e1 - f1 in
      let g2 = e2 - f2 in
      let g3 = e3 - f3 in
      let d1 = g1 - g0 in
      let d2 = g2 - g1 - d1 in
      let d3 = g3 - g2 - (g2 - g1) - d2 in
      let a = d2 * half in
      let b = d3 * sixth in
      let cs = g0 ∷ (d1 - a + num K 2 * b) ∷ (a - num K 3 * b) ∷ b ∷ [] in
      at_most_sub 3 (λ x. eval K cs x ≡ nil) _
      (λ x e. ring_by K (e0 ∷ e1 ∷ e2 ∷ e3 ∷ f0 ∷ f1 ∷ f2 ∷ f3 ∷ half ∷ sixth ∷ x ∷ []) (one ▷ e ∷ []) (search quote depth 40 fits 9999) tt)
      (few_roots K D 3 cs (omega arith) (λ z. n (apart z.0 z.1.0 z.1.1.0 z.1.1.1.0)))
    where
      -- Newton's differences from the coefficients, all of them zero
      apart : let g0 = e0 - f0 in
          let g1 = e1 - f1 in
          let g2 = e2 - f2 in
          let d1 = g1 - g0 in
          let d2 = g2 - g1 - d1 in
          let d3 = e3 - f3 - g2 - (g2 - g1) - d2 in
          g0 ≡ nil → d1 - d2 * half + num K 2 * (d3 * sixth) ≡ nil → d2 * half - num K 3 * (d3 * sixth) ≡ nil → d3 * sixth ≡ nil
          → (e0 ≡ f0) × (e1 ≡ f1) × (e2 ≡ f2) × (e3 ≡ f3)
      apart z0 z1 z2 z3 =
          let ρ : List R = e0 ∷ e1 ∷ e2 ∷ e3 ∷ f0 ∷ f1 ∷ f2 ∷ f3 ∷ half ∷ sixth ∷ [] in
          let g1 = e1 - f1 in
          let g2 = e2 - f2 in
          let d2 = g2 - g1 - (g1 - (e0 - f0)) in
          let d3 = e3 - f3 - g2 - (g2 - g1) - d2 in (
            eq_of_sub K e0 f0 z0,
            ring_by K ρ (one ▷ z0 ∷ one ▷ z1 ∷ one ▷ z2 ∷ one ▷ z3 ∷ []) (search quote depth 40 fits 9999) tt,
            ring_by K ρ (one ▷ z0 ∷ num K 2 ▷ z1 ∷ num K 4 ▷ z2 ∷ num K 8 ▷ z3 ∷ neg d2 ▷ two_half ∷ []) (search quote depth 40 fits 9999) tt,
            ring_by K ρ (one ▷ z0 ∷ num K 3 ▷ z1 ∷ num K 9 ▷ z2 ∷ num K 27 ▷ z3 ∷ neg (num K 3 * d2) ▷ two_half ∷ neg d3 ▷ six_sixth ∷ []) (search quote depth 40 fits 9999) tt,
          )
