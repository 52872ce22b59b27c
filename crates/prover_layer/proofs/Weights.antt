-- The powers of two that sizes are.
-- Assumes nothing.
use mathlib.Core.Path.{◌≡◌, sym, ◌∙◌, ap}
use Prim.Native.Nat.{ℕ, ◌+◌, ◌*◌, ◌^◌, ◌<◌, ◌≤◌}
use native.Mathlib.Nat.{pow-le-pow_right, pow-succ'}
use native.Mathlib.Bridge.{le_by_compare, IsLe}
use native.Mathlib.Numerals.{add-one}
use native.Mathlib.Omega.{arith}

pub double_le : (j k : ℕ) → j < k → 2 * 2 ^ j ≤ 2 ^ k
unfolding IsLe
double_le j k h = omega (arith, pow-le-pow_right (le_by_compare 1 2 tt) h)

pub pow_next : (n j : ℕ) → n ≡ 2 ^ j → 2 * n ≡ 2 ^ (j + 1)
pow_next n j e = ap (λ m. 2 * m) e ∙ sym (pow-succ' 2 j) ∙ ap (λ k. 2 ^ k) (sym (add-one j))
