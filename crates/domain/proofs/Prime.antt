-- 2013265921 is prime: no number up to its square root divides it, which is computed, and so no number below it does.
-- Assumes nothing.
use Rattle.std.specs.Prelude.{ℕ, zero, suc, ◌+◌, ◌*◌, ◌/◌, ◌%◌, ◌≤◌, ◌<◌, ◌≡◌, refl, true, ◌⊎◌, ltb}
use Rattle.std.proofs.Common.{sym, ◌∙◌, ap, subst, inl, inr, mul-le-mul_left, lt_of_mul-lt-mul_right, eq-zero-or-pos, eq-or-lt_of_le, arith, ltb-true}
use Rattle.std.proofs.Math.Nat.{div-add-mod, mul-mod_left}
use Rattle.std.proofs.Math.Decide.{dec_lt}
use Rattle.field.specs.Base.{P}
use Rattle.field.specs.ExtRing.{both}
use Rattle.domain.specs.Prime.{undivided, tried}

-- TRIAL DIVISION

tested : (p n d : ℕ) → undivided p n ≡ true → 2 ≤ d → d < n + 2 → 0 < p % d
unfolding undivided
tested p zero d t l h = absurd (omega arith)
tested p (suc n) d t l h =
    let b = both (ltb 0 (p % suc (suc n))) (undivided p n) t in
    let e : d ≤ suc (suc n) = omega arith in
    go b.0 (λ k. tested p n d b.1 l k) (eq-or-lt_of_le e)
  where
    go : ltb 0 (p % suc (suc n)) ≡ true → (d < n + 2 → 0 < p % d) → (d ≡ suc (suc n)) ⊎ (d < suc (suc n)) → 0 < p % d
    go b f (inl e) = subst (λ k. 0 < p % k) (sym e) (ltb-true 0 (p % suc (suc n)) b)
    go b f (inr k) = f (omega arith)

-- UP TO THE SQUARE ROOT IS ENOUGH: of two factors one is below it

module _ (p n : ℕ) (pass : undivided p n ≡ true) (square : p < (n + 2) * (n + 2)) where
  other : (d : ℕ) → n + 2 ≤ d → d < p → p % d ≡ 0 → ⊥
  other d l h e = go (p / d) (sym (div-add-mod p d) ∙ ap (λ r. d * (p / d) + r) e)
    where
      factor : (q : ℕ) → p ≡ d * suc (suc q) → ⊥
      factor q e =
          let small : suc (suc q) < n + 2 = lt_of_mul-lt-mul_right d (omega (arith, e, square, mul-le-mul_left (n + 2) l)) in
          omega (arith, tested p n (suc (suc q)) pass (omega arith) small, ap (λ k. k % suc (suc q)) e ∙ mul-mod_left d (suc (suc q)))

      go : (q : ℕ) → p ≡ d * q + 0 → ⊥
      go zero e = omega (arith, e)
      go (suc zero) e = omega (arith, e)
      go (suc (suc q)) e = factor q (omega (arith, e))

  no_divisor : (d : ℕ) → 2 ≤ d → d < p → 0 < p % d
  no_divisor d l h = go (dec_lt d (n + 2)) (eq-zero-or-pos (p % d))
    where
      go : Dec (d < n + 2) → (p % d ≡ 0) ⊎ (0 < p % d) → 0 < p % d
      go (yes k) e = tested p n d pass l k
      go (no k) (inl e) = absurd (other d (omega arith) h e)
      go (no k) (inr g) = g

-- THE PRIME

enough : ltb P ((tried + 2) * (tried + 2)) ≡ true
enough = refl

passes : undivided P tried ≡ true
unfolding undivided
passes = refl

pub prime : (d : ℕ) → 2 ≤ d → d < P → 0 < P % d
prime = no_divisor P tried passes (ltb-true _ _ enough)
