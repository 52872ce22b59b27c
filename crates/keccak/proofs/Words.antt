-- A rotation as std has it, by shifts and "or", and a column's parity.
-- Assumes nothing.
use mathlib.Core.Path.{◌≡◌, ap₂, ◌∙◌}
use mathlib.Core.List.{List}
use Prim.Native.Nat.{ℕ, ◌+◌, ◌-◌, ◌*◌, ◌/◌, ◌%◌, ◌^◌, ◌≤◌, ◌<◌}
use native.Mathlib.Nat.{add-zero, mul-mod_left}
use native.Mathlib.Omega.{arith}
use lib.Bits.{bit_or, or_shifted}
use lib.Pow.{shr_lt, shl-shr, mod-pow-add}
use Rattle.std.specs.Int.{w64, rotate_left}
use Rattle.std.proofs.lemmas.Nat.{xor_lt}
use Rattle.keccak.specs.Keccak.{rot, column, lane}

-- j + n digits, shifted by n: the j low ones move up
shl_parts : (a j n : ℕ) → (a * 2 ^ n) % 2 ^ (j + n) ≡ (a % 2 ^ j) * 2 ^ n
shl_parts a j n =
    mod-pow-add (a * 2 ^ n) j n ∙ ap₂ (λ (x y : ℕ). (x % 2 ^ j) * 2 ^ n + y) (shl-shr a n) (mul-mod_left a (2 ^ n)) ∙ add-zero (a % 2 ^ j * 2 ^ n)

rot_parts : (a j n : ℕ) → a < 2 ^ (n + j) → bit_or ((a * 2 ^ n) % 2 ^ (j + n)) (a / 2 ^ j) ≡ (a * 2 ^ n) % 2 ^ (j + n) + a / 2 ^ j
rot_parts a j n h = rw (shl_parts a j n) (or_shifted (a % 2 ^ j) n (a / 2 ^ j) (shr_lt n j h))

rot_or : (a n : ℕ) → a < 2 ^ 64 → n ≤ 64 → bit_or ((a * 2 ^ n) % 2 ^ 64) (a / 2 ^ (64 - n)) ≡ rot a n
unfolding rot
rot_or a n h k =
    let e : (64 - n) + n ≡ 64 = omega arith in
    let e' : n + (64 - n) ≡ 64 = omega arith in
    rw e at (rot_parts a (64 - n) n (rw e' h))

pub turned : {a r : ℕ} (n : ℕ) → a < 2 ^ 64 → 0 < n → n < 64 → r ≡ rotate_left w64 a n → r ≡ rot a n
turned {a} n h z k e =
    let p : n % 64 ≡ n = omega arith in
    let q : (64 - n % 64) % 64 ≡ 64 - n = omega arith in
    e ∙ ap₂ (λ (x y : ℕ). bit_or ((a * 2 ^ x) % 2 ^ 64) (a / 2 ^ y)) p q ∙ rot_or a n h (omega arith)

pub column_fits : (a : List ℕ) (x : ℕ) → lane a x 0 < 2 ^ 64 → lane a x 1 < 2 ^ 64 → lane a x 2 < 2 ^ 64 → lane a x 3 < 2 ^ 64 → lane a x 4 < 2 ^ 64
    → column a x < 2 ^ 64
column_fits a x h0 h1 h2 h3 h4 = xor_lt 64 _ _ (xor_lt 64 _ _ (xor_lt 64 _ _ (xor_lt 64 _ _ h0 h1) h2) h3) h4
