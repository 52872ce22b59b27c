-- What is a power of two is found to be one, and what lies between two of them is not; a shift of 1 is one.
-- Assumes nothing.
use Rattle.std.specs.Prelude.{◌≡◌, refl, Bool, true, false, cond, ℕ, zero, suc, ◌+◌, ◌*◌, ◌%◌, ◌^◌, ◌<◌, ◌≤◌, eqb, leb}
use Rattle.std.proofs.Common.{sym, ◌∙◌, ap, ⊎_elim, eq-or-lt_of_le, mod-eq_of_lt, one-mul, add-one, arith, eq-eqb, ne_eqb, leb-true, leb-false}
use Rattle.std.proofs.Math.Nat.{two-pow-succ, one-le-pow, pow-le-pow_right}
use Rattle.refusal.specs.Powers.{any_power, power_of_two}

pub above : (k : ℕ) → k < 2 ^ k
above zero = omega (arith, one-le-pow 0 2 (omega arith))
above (suc k) = omega (arith, above k, two-pow-succ k)

either : (t : Bool) → cond t true true ≡ true
either true = refl
either false = refl

any_yes : (m k n : ℕ) → k < m → 2 ^ k ≡ n → any_power m n ≡ true
unfolding any_power
any_yes zero k n h e = absurd (omega arith)
any_yes (suc m) k n h e =
    let l : k ≤ m = omega arith in
    ⊎_elim
    (λ d. ap (λ t. cond t true (any_power m n)) (eq-eqb (2 ^ m) n (ap (λ j. 2 ^ j) (sym d) ∙ e)))
    (λ d. ap (λ t. cond (eqb (2 ^ m) n) true t) (any_yes m k n d e) ∙ either (eqb (2 ^ m) n))
    (eq-or-lt_of_le l)

any_no : (m n : ℕ) → ((j : ℕ) → 2 ^ j ≡ n → ⊥) → any_power m n ≡ false
unfolding any_power
any_no zero n h = refl
any_no (suc m) n h = ap (λ t. cond t true (any_power m n)) (ne_eqb (2 ^ m) n (h m)) ∙ any_no m n h

pub power_yes : (k n : ℕ) → 2 ^ k ≡ n → power_of_two n ≡ true
power_yes k n e = any_yes n k n (omega (arith, above k, e)) e

pub power_no : (n : ℕ) → ((j : ℕ) → 2 ^ j ≡ n → ⊥) → power_of_two n ≡ false
power_no n h = any_no n n h

grows : (j k : ℕ) → j ≤ k → 2 ^ j ≤ 2 ^ k
grows j k l = let z : 0 < 2 = omega arith in pow-le-pow_right z l

no_side : (j k n : ℕ) (t : Bool) → leb j k ≡ t → 2 ^ k < n → n < 2 ^ k + 2 ^ k → 2 ^ j ≡ n → ⊥
no_side j k n true s a b e = omega (arith, grows j k (leb-true j k s), a, e)
no_side j k n false s a b e = omega (arith, grows (suc k) j (omega (arith, leb-false j k s)), two-pow-succ k, b, e)

pub power_between : (k n : ℕ) → 2 ^ k < n → n < 2 ^ k + 2 ^ k → power_of_two n ≡ false
power_between k n a b = power_no n (λ j e. no_side j k n (leb j k) refl a b e)

pub doubled : (k p : ℕ) → p ≡ 2 ^ k → p + p ≡ 2 ^ (k + 1)
doubled k p e = let s : 2 ^ (k + 1) ≡ 2 ^ suc k = ap (λ j. 2 ^ j) (add-one k) in omega (arith, s, two-pow-succ k, e)

pub shifted : (n : ℕ) → n < 64 → 1 * 2 ^ n % 18446744073709551616 ≡ 2 ^ n
shifted n h = let s : 2 ^ n ≤ 2 ^ 63 = grows n 63 (omega arith) in mod-eq_of_lt (omega (arith, s)) ∙ one-mul (2 ^ n)
