-- The extension is a field: an element times the product of its conjugates is a base element, zero only for zero. With y = x²: x² = y, y² = 11.
-- Assumes nothing.
use Rattle.std.specs.Prelude.{ℕ, ◌≡◌, refl, List, [], ◌∷◌, Bool, true, false, ◌⊎◌}
use Rattle.std.proofs.Common.{sym, ◌∙◌, ap, true≢false, inl, inr, arith}
use Rattle.ring.specs.Ring.{num}
use Rattle.ring.proofs.Quote.{ring, ring_by, quote, ◌▷◌}
use Rattle.field.specs.Base as B
use Rattle.field.specs.Base.{F, of}
use Rattle.field.specs.BaseRing.{Base}
use Rattle.field.specs.Ext as E
use Rattle.field.specs.Ext.{Ext, eleven, emb}
use Rattle.field.specs.ExtRing.{ExtRing, ext_path, emb_mul, same_true, same_of, arithmetic}
use Rattle.domain.specs.Field.{IsField, Domain}
use Rattle.domain.specs.FieldLaws.{domain}
use Rattle.domain.proofs.Inverse.{base_field, eleven_no_square}

infixl 60 ◌+◌ ◌−◌
infixl 70 ◌*◌
abbrev ◌+◌ : F → F → F
◌+◌ = B.add

abbrev ◌*◌ : F → F → F
◌*◌ = B.mul

abbrev ◌−◌ : F → F → F
a − b = B.add a (B.neg b)

-- u² = 11·v² ONLY FOR ZERO

zero_square : (u : F) → u * u ≡ B.nil → u ≡ B.nil
zero_square u e = go ((domain Base base_field).no_zero u u e)
  where
    go : (u ≡ B.nil) ⊎ (u ≡ B.nil) → u ≡ B.nil
    go (inl h) = h
    go (inr h) = h

-- else u / v were a root of 11
ratio : (u v w : F) → u * u ≡ eleven * (v * v) → v * w ≡ B.one → (u * w) * (u * w) ≡ eleven
ratio u v w e h = ring_by Base (u ∷ v ∷ w ∷ eleven ∷ []) (w * w ▷ e ∷ eleven * (v * w + B.one) ▷ h ∷ []) (search quote depth 40 fits 9999) tt

only_zero : (u v : F) → u * u ≡ eleven * (v * v) → (u ≡ B.nil) × (v ≡ B.nil)
only_zero u v e = go (base_field.decide v B.nil)
  where
    go : Dec (v ≡ B.nil) → (u ≡ B.nil) × (v ≡ B.nil)
    go (yes h) = (zero_square u (e ∙ ap (λ x. eleven * (x * x)) h ∙ ring Base (eleven ∷ []) (search quote) tt), h)
    go (no n) =
        let w = base_field.inverse v n in
        absurd (eleven_no_square (u * w.0) (ratio u v w.0 e w.1 ∙ (unfold eleven in refl)))

difference : (s t : F) → s − t ≡ B.nil → s ≡ t
difference s t e = ring_by Base (s ∷ t ∷ []) (B.one ▷ e ∷ []) (search quote) tt

-- a root of −1
abbrev iota : F
iota = of 1728404513

iota_square : iota * iota ≡ B.neg B.one
unfolding arithmetic
iota_square = refl

-- THE NORM

-- a times a with −x for x is half0 a + half2 a · y
half0 : Ext → F
half0 a = a.c0 * a.c0 + eleven * (a.c2 * a.c2) − num Base 2 * (eleven * (a.c1 * a.c3))

half2 : Ext → F
half2 a = num Base 2 * (a.c0 * a.c2) − a.c1 * a.c1 − eleven * (a.c3 * a.c3)

-- that times itself with −y for y
norm : Ext → F
unfolding half0 half2
norm a = half0 a * half0 a − eleven * (half2 a * half2 a)

-- what a is multiplied by for it
others : Ext → Ext
unfolding half0 half2
others a = E.mul (record { c0 = a.c0; c1 = B.neg a.c1; c2 = a.c2; c3 = B.neg a.c3 }) (record { c0 = half0 a; c1 = B.nil; c2 = B.neg (half2 a); c3 = B.nil })

abbrev words : Ext → List F
words a = a.c0 ∷ a.c1 ∷ a.c2 ∷ a.c3 ∷ eleven ∷ []

norm_is : (a : Ext) → E.mul a (others a) ≡ emb (norm a)
unfolding others norm half0 half2 E.mul emb
norm_is a =
    ext_path (ring Base (words a) (search quote depth 40 fits 9999) tt) (ring Base (words a) (search quote depth 40 fits 9999) tt)
    (ring Base (words a) (search quote depth 40 fits 9999) tt) (ring Base (words a) (search quote depth 40 fits 9999) tt)

-- ZERO ONLY FOR ZERO

-- half0 a and half2 a are zero where (c0 + c2·y)² = y·(c1 + c3·y)², whose norms are u² = −11·v²
module _ (a : Ext) where
  abbrev u : F
  u = a.c0 * a.c0 − eleven * (a.c2 * a.c2)

  abbrev v : F
  v = a.c1 * a.c1 − eleven * (a.c3 * a.c3)

  norms : half0 a ≡ B.nil → half2 a ≡ B.nil → u * u ≡ eleven * ((iota * v) * (iota * v))
  unfolding half0 half2
  norms h0 h2 =
      ring_by Base (a.c0 ∷ a.c1 ∷ a.c2 ∷ a.c3 ∷ eleven ∷ iota ∷ [])
      ((a.c0 * a.c0 + eleven * (a.c2 * a.c2) + num Base 2 * (eleven * (a.c1 * a.c3))) ▷ h0
      ∷ (B.neg eleven * (num Base 2 * (a.c0 * a.c2) + a.c1 * a.c1 + eleven * (a.c3 * a.c3))) ▷ h2
      ∷ (B.neg eleven * (v * v)) ▷ iota_square ∷ [])
      (search quote depth 40 fits 9999) tt

  halves_nil : half0 a ≡ B.nil → half2 a ≡ B.nil → a ≡ E.nil
  unfolding E.nil emb
  halves_nil h0 h2 =
      let z = only_zero u (iota * v) (norms h0 h2) in
      let w : v ≡ B.nil = ring_by Base (iota ∷ a.c1 ∷ a.c3 ∷ eleven ∷ []) (B.neg iota ▷ z.1 ∷ v ▷ iota_square ∷ []) (search quote depth 40 fits 9999) tt in
      let p = only_zero a.c0 a.c2 (difference (a.c0 * a.c0) (eleven * (a.c2 * a.c2)) z.0) in
      let q = only_zero a.c1 a.c3 (difference (a.c1 * a.c1) (eleven * (a.c3 * a.c3)) w) in
      ext_path p.0 q.0 p.1 q.1

  norm_nil : norm a ≡ B.nil → a ≡ E.nil
  unfolding norm
  norm_nil e =
      let z = only_zero (half0 a) (half2 a) (difference (half0 a * half0 a) (eleven * (half2 a * half2 a)) e) in
      halves_nil z.0 z.1

-- THE FIELD

decide : (a b : Ext) → Dec (a ≡ b)
decide a b = go (E.same a b) refl
  where
    go : (t : Bool) → E.same a b ≡ t → Dec (a ≡ b)
    go true e = yes (same_true a b e)
    go false e = no (λ h. true≢false (sym (same_of a b h) ∙ e))

inverse : (a : Ext) → ¬ (a ≡ E.nil) → (b : Ext) × (E.mul a b ≡ E.one)
inverse a h =
    let i = base_field.inverse (norm a) (λ e. h (norm_nil a e)) in (
      E.mul (others a) (emb i.0),
      sym (ExtRing.mul_assoc a (others a) (emb i.0))
          ∙ ap (λ t. E.mul t (emb i.0)) (norm_is a)
          ∙ sym (emb_mul (norm a) i.0)
          ∙ ap emb i.1
          ∙ (unfold E.one in refl),
    )

pub ext_field : IsField ExtRing
ext_field = record { decide = decide; inverse = inverse }

-- no two elements but zero have the product zero
pub ext_domain : Domain ExtRing
ext_domain = domain ExtRing ext_field

pub one_not_nil : ¬ (E.one ≡ E.nil)
unfolding arithmetic
one_not_nil e = let k : ◌≡◌ {A = ℕ} 1 0 = ap (λ a. a.c0.val) e in omega (arith, k)
