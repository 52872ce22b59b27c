-- The base field is a field: every element but zero has an inverse. And 11 is no square in it.
-- Assumes nothing.
use Rattle.std.specs.Prelude.{ℕ, zero, suc, ◌*◌, ◌/◌, ◌%◌, ◌≤◌, ◌<◌, ◌^◌, ◌≡◌, refl, [], ◌∷◌}
use Rattle.std.proofs.Common.{sym, ◌∙◌, mod-lt}
use Rattle.std.proofs.Math.Path.{ap, subst}
use Rattle.std.proofs.Math.Nat.{div-add-mod}
use Rattle.std.proofs.Math.Decide.{ℕ_discrete}
use native.Mathlib.Omega.{arith}
use Rattle.ring.specs.Ring.{num, pow}
use Rattle.ring.specs.RingLaws.{pow_suc}
use Rattle.ring.proofs.Quote.{ring_by, quote, ◌▷◌}
use Rattle.field.specs.Base as B
use Rattle.field.specs.Base.{P, F, of}
use Rattle.field.specs.BaseRing.{Base, f_path, val_lt, of_val, of_add, of_mul, num_of}
use Rattle.field.specs.ExtRing.{arithmetic}
use Rattle.domain.specs.Field.{IsField}
use Rattle.domain.proofs.Prime.{prime}
use Rattle.domain.specs.Fermat.{fermat, squares, pow_mul, pow_two, pow_squares}
use Rattle.domain.specs.Inverse.{computed}

-- INVERSES

-- P is a·q + r with r below a, so −q·r⁻¹ is the inverse of a: down to 1, since no other a divides P
below : (n a : ℕ) → a < n → 0 < a → a < P → (b : F) × (B.mul (of a) b ≡ B.one)
below zero a h l f = absurd (omega arith)
below (suc n) a h l f = go (ℕ_discrete a 1) (λ g. below n (P % a) (omega (arith, mod-lt P l)) (prime a g f) (omega (arith, mod-lt P l)))
  where
    whole : B.add (B.mul (of a) (of (P / a))) (of (P % a)) ≡ B.nil
    whole = ap (λ t. B.add t (of (P % a))) (sym (of_mul a (P / a))) ∙ sym (of_add (a * (P / a)) (P % a)) ∙ ap of (div-add-mod P a) ∙ (unfold B.nil of in refl)

    step : (b : F) → B.mul (of (P % a)) b ≡ B.one → B.mul (of a) (B.mul (B.neg (of (P / a))) b) ≡ B.one
    step b e = ring_by Base (of a ∷ of (P / a) ∷ of (P % a) ∷ b ∷ []) (B.neg b ▷ whole ∷ B.one ▷ e ∷ []) (search quote) tt

    go : Dec (a ≡ 1) → (2 ≤ a → (b : F) × (B.mul (of (P % a)) b ≡ B.one)) → (b : F) × (B.mul (of a) b ≡ B.one)
    go (yes e) ih = (B.one, ap (λ k. B.mul (of k) B.one) e ∙ (unfold B.mul B.one of in refl))
    go (no g) ih = let r = ih (omega arith) in (B.mul (B.neg (of (P / a))) r.0, step r.0 r.1)

decide : (a b : F) → Dec (a ≡ b)
decide a b = go (ℕ_discrete a.val b.val)
  where
    go : Dec (a.val ≡ b.val) → Dec (a ≡ b)
    go (yes e) = yes (f_path e)
    go (no n) = no (λ e. n (ap (λ x. x.val) e))

inverse : (a : F) → ¬ (a ≡ B.nil) → (b : F) × (B.mul a b ≡ B.one)
inverse a n =
    let b = below P a.val (val_lt a) (positive a.val (λ e. n (sym (of_val a) ∙ ap of e ∙ (unfold B.nil in refl)))) (val_lt a) in
    (b.0, subst (λ x. B.mul x b.0 ≡ B.one) (of_val a) b.1)
  where
    positive : (n : ℕ) → ¬ (n ≡ 0) → 0 < n
    positive n h = omega arith

pub base_field : IsField Base
base_field = record { decide = decide; inverse = inverse }

-- ELEVEN

-- a ^ P is a
power : (a : F) → pow Base a P ≡ a
power a = subst (λ x. pow Base x P ≡ x) (num_of a.val ∙ of_val a) (fermat Base 2013265920 none invert a.val)
  where
    none : num Base P ≡ B.nil
    none = num_of P ∙ (unfold B.nil of in refl)

    invert : (k : ℕ) → 0 < k → k < P → (b : F) × (B.mul (num Base k) b ≡ B.one)
    invert k l h = let r = below P k h l h in (r.0, subst (λ x. B.mul x r.0 ≡ B.one) (sym (num_of k)) r.1)

-- and it is a·((a²)^15)^(2^26), which a² alone tells but for its first factor
split : (a : F) → pow Base a P ≡ B.mul a (squares Base 26 (pow Base (B.mul a a) 15))
split a = pow_suc Base a (2 * (15 * 2 ^ 26)) ∙ ap (B.mul a) half
  where
    half : pow Base a (2 * (15 * 2 ^ 26)) ≡ squares Base 26 (pow Base (B.mul a a) 15)
    half =
        pow_mul Base a 2 (15 * 2 ^ 26)
        ∙ ap (λ x. pow Base x (15 * 2 ^ 26)) (pow_two Base a)
        ∙ pow_mul Base (B.mul a a) 15 (2 ^ 26)
        ∙ pow_squares Base 26 (pow Base (B.mul a a) 15)

-- a root of 11 would be its own opposite, and so would 11
pub eleven_no_square : (a : F) → ¬ (B.mul a a ≡ of 11)
eleven_no_square a e =
    let h : B.mul a (B.neg B.one) ≡ a = sym (sym (power a) ∙ split a ∙ ap (λ x. B.mul a (squares Base 26 (pow Base x 15))) e ∙ ap (B.mul a) computed) in
    let g : B.neg (B.mul a a) ≡ B.mul a a = ring_by Base (a ∷ []) (a ▷ h ∷ []) (search quote) tt in
    differ (sym (ap B.neg e) ∙ g ∙ e)
  where
    differ : B.neg (of 11) ≡ of 11 → ⊥
    differ e = let k : ◌≡◌ {A = ℕ} 2013265910 11 = unfold arithmetic in ap (λ x. x.val) e in omega (arith, k)
