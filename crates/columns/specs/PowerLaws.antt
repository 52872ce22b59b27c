-- The number of variables of a table is the exponent of its number of entries.
-- Assumes nothing.
use Rattle.std.specs.Prelude.{◌≡◌, refl, Bool, true, false, cond, ℕ, zero, suc, ◌≤◌, ◌<◌, ◌^◌, eqb, leb}
use Rattle.std.proofs.Common.{sym, ◌∙◌, ap, ⊎_elim, eq-or-lt_of_le, arith, eqb-true, eq-eqb, leb-true, leb-false}
use Rattle.std.proofs.Math.Nat.{pow-le-pow_right, two-pow-succ, one-le-pow}
use Rattle.std.proofs.Math.Bridge.{le_by_compare, IsLe}
use Rattle.refusal.specs.Limits.{max_rounds, max_rows}
use Rattle.refusal.specs.Powers.{any_power, power_of_two}
use Rattle.columns.specs.Powers.{exponent, variables_of}

pick_le : (b : Bool) (k x : ℕ) → x ≤ k → cond b (suc k) x ≤ suc k
pick_le true k x h = omega arith
pick_le false k x h = omega arith

pub exponent_le : (limit n : ℕ) → exponent limit n ≤ limit
unfolding exponent
exponent_le zero n = omega arith
exponent_le (suc k) n = pick_le (eqb n (2 ^ suc k)) k (exponent k n) (exponent_le k n)

-- the number found is the right one
found : (b : Bool) (m k n : ℕ) → (b ≡ true → n ≡ 2 ^ suc m) → (b ≡ false → n ≡ 2 ^ exponent m n) → n ≡ 2 ^ cond b (suc m) (exponent m n)
found true m k n h g = h refl
found false m k n h g = g refl

pub exponent_of : (limit k n : ℕ) → k ≤ limit → n ≡ 2 ^ k → n ≡ 2 ^ exponent limit n
unfolding exponent
exponent_of zero k n h e = let z : k ≡ 0 = omega arith in e ∙ ap (λ j. 2 ^ j) z
exponent_of (suc m) k n h e =
    found (eqb n (2 ^ suc m)) m k n (eqb-true n (2 ^ suc m))
    (λ b. ⊎_elim
    (λ (q : k ≡ suc m). absurd (let z : ◌≡◌ {A = ℕ} 0 1 = cc (eq-eqb n (2 ^ suc m) (e ∙ ap (λ j. 2 ^ j) q), b) in omega arith))
    (λ (q : k < suc m). exponent_of m k n (omega arith) e)
    (eq-or-lt_of_le h))

-- the exponent of a power of two that is not over the limit
small : (limit k n : ℕ) → 2 ^ k ≡ n → n ≤ 2 ^ limit → (t : Bool) → leb k limit ≡ t → k ≤ limit
unfolding IsLe
small limit k n e h true s = leb-true k limit s
small limit k n e h false s =
    absurd (omega (arith, pow-le-pow_right (le_by_compare 1 2 tt) (leb-false k limit s), two-pow-succ limit, one-le-pow limit 2 (omega arith)))

one_of : (m limit n : ℕ) (t : Bool) → eqb (2 ^ m) n ≡ t → cond t true (any_power m n) ≡ true → n ≤ 2 ^ limit → (any_power m n ≡ true → n ≡ 2 ^ exponent limit n) → n ≡ 2 ^ exponent limit n
one_of m limit n true e h l f = let q = eqb-true (2 ^ m) n e in exponent_of limit m n (small limit m n q l (leb m limit) refl) (sym q)
one_of m limit n false e h l f = f h

any_of : (m limit n : ℕ) → any_power m n ≡ true → n ≤ 2 ^ limit → n ≡ 2 ^ exponent limit n
unfolding any_power
any_of zero limit n h l = absurd (let z : ◌≡◌ {A = ℕ} 0 1 = cc in omega arith)
any_of (suc m) limit n h l = one_of m limit n (eqb (2 ^ m) n) refl h l (λ q. any_of m limit n q l)

pub variables_of_is : (n : ℕ) → power_of_two n ≡ true → n ≤ max_rows → n ≡ 2 ^ variables_of n
variables_of_is n h l = any_of n max_rounds n h l

pub power_le : (j k : ℕ) → j ≤ k → 2 ^ j ≤ 2 ^ k
unfolding IsLe
power_le j k h = pow-le-pow_right (le_by_compare 1 2 tt) h
