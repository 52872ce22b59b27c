-- Four bytes at once, two such make a lane, and where all four lie in the words or in the padding's zeros.
-- Assumes nothing.
use mathlib.Core.Path.{◌≡◌, refl, sym, ap, ◌∙◌}
use mathlib.Core.List.{List, [], ◌∷◌}
use Prim.Native.Nat.{ℕ, suc, ◌+◌, ◌-◌, ◌*◌, ◌/◌, ◌%◌, ◌^◌, ◌≤◌, ◌<◌}
use native.Mathlib.Omega.{arith}
use lib.ListN.{length, get_or}
use Rattle.std.specs.Int.{w32, w64, swap_bytes}
use Rattle.wire.specs.Bytes.{bytes_of}
use Rattle.keccak.specs.Values.{values}
use Rattle.shake.specs.Sponge.{high_first, padded, lane_at, lane_byte}
use Rattle.shake.specs.Drawn.{message}
use Rattle.shake.specs.Quads.{quad_at}
use Rattle.shake.proofs.PadLaws.{length_message, in_words, pad_inside, byte_zero, byte_last}

pub quad_eq : {b0 b1 b2 b3 a0 a1 a2 a3 : ℕ} → b0 ≡ a0 → b1 ≡ a1 → b2 ≡ a2 → b3 ≡ a3
    → b0 + b1 * 2 ^ 8 + b2 * 2 ^ 16 + b3 * 2 ^ 24 ≡ a0 + a1 * 2 ^ 8 + a2 * 2 ^ 16 + a3 * 2 ^ 24
quad_eq e0 e1 e2 e3 = λ i. e0 i + e1 i * 2 ^ 8 + e2 i * 2 ^ 16 + e3 i * 2 ^ 24

-- ---- a lane

four : (b0 b1 b2 b3 x : ℕ) → b0 + 256 * (b1 + 256 * (b2 + 256 * (b3 + 256 * x))) ≡ b0 + b1 * 2 ^ 8 + b2 * 2 ^ 16 + b3 * 2 ^ 24 + x * 2 ^ 32
four b0 b1 b2 b3 x = omega arith

eight : (b0 b1 b2 b3 b4 b5 b6 b7 : ℕ)
    → b0 + 256 * (b1 + 256 * (b2 + 256 * (b3 + 256 * (b4 + 256 * (b5 + 256 * (b6 + 256 * (b7 + 256 * 0)))))))
    ≡ b0 + b1 * 2 ^ 8 + b2 * 2 ^ 16 + b3 * 2 ^ 24 + (b4 + b5 * 2 ^ 8 + b6 * 2 ^ 16 + b7 * 2 ^ 24) * 2 ^ 32
eight b0 b1 b2 b3 b4 b5 b6 b7 =
    let e : b4 + 256 * (b5 + 256 * (b6 + 256 * (b7 + 256 * 0))) ≡ b4 + b5 * 2 ^ 8 + b6 * 2 ^ 16 + b7 * 2 ^ 24 = omega arith in
    four b0 b1 b2 b3 (b4 + 256 * (b5 + 256 * (b6 + 256 * (b7 + 256 * 0))))
    ∙ ap (λ (x : ℕ). b0 + b1 * 2 ^ 8 + b2 * 2 ^ 16 + b3 * 2 ^ 24 + x * 2 ^ 32) e

-- and turned: the first is the highest
eight_turned : (b0 b1 b2 b3 b4 b5 b6 b7 : ℕ)
    → b0 * 2 ^ 56 + b1 * 2 ^ 48 + b2 * 2 ^ 40 + b3 * 2 ^ 32 + b4 * 2 ^ 24 + b5 * 2 ^ 16 + b6 * 2 ^ 8 + b7
    ≡ high_first (b0 ∷ b1 ∷ b2 ∷ b3 ∷ b4 ∷ b5 ∷ b6 ∷ b7 ∷ [])
eight_turned b0 b1 b2 b3 b4 b5 b6 b7 =
    let e : b0 * 2 ^ 56 + b1 * 2 ^ 48 + b2 * 2 ^ 40 + b3 * 2 ^ 32 + b4 * 2 ^ 24 + b5 * 2 ^ 16 + b6 * 2 ^ 8 + b7
    ≡ b7 + b6 * 2 ^ 8 + b5 * 2 ^ 16 + b4 * 2 ^ 24 + (b3 + b2 * 2 ^ 8 + b1 * 2 ^ 16 + b0 * 2 ^ 24) * 2 ^ 32
    = omega arith in
    e ∙ sym (eight b7 b6 b5 b4 b3 b2 b1 b0)

-- as std turns the bytes of a number
pub swapped_lane : (a : ℕ) → swap_bytes w64 a ≡ high_first (values (lane_byte a) 0 8)
swapped_lane a =
    let e : a % 256 ≡ a / 1 % 256 = omega arith in
    ap (λ (x : ℕ). x * 2 ^ 56 + a / 2 ^ 8 % 256 * 2 ^ 48 + a / 2 ^ 16 % 256 * 2 ^ 40 + a / 2 ^ 24 % 256 * 2 ^ 32 + a / 2 ^ 32 % 256 * 2 ^ 24
    + a / 2 ^ 40 % 256 * 2 ^ 16 + a / 2 ^ 48 % 256 * 2 ^ 8 + a / 2 ^ 56 % 256) e
    ∙ eight_turned (a / 1 % 256) (a / 2 ^ 8 % 256) (a / 2 ^ 16 % 256) (a / 2 ^ 24 % 256) (a / 2 ^ 32 % 256) (a / 2 ^ 40 % 256) (a / 2 ^ 48 % 256) (a / 2 ^ 56 % 256)

four_turned : (b0 b1 b2 b3 : ℕ) → b0 * 2 ^ 24 + b1 * 2 ^ 16 + b2 * 2 ^ 8 + b3 ≡ b3 + b2 * 2 ^ 8 + b1 * 2 ^ 16 + b0 * 2 ^ 24
four_turned b0 b1 b2 b3 = omega arith

pub swapped_quad : (y : ℕ) → y < 2 ^ 32 → swap_bytes w32 y ≡ y / 2 ^ 24 + y / 2 ^ 16 % 256 * 2 ^ 8 + y / 2 ^ 8 % 256 * 2 ^ 16 + y % 256 * 2 ^ 24
swapped_quad y h =
    let e : y / 2 ^ 24 % 256 ≡ y / 2 ^ 24 = omega arith in
    four_turned (y % 256) (y / 2 ^ 8 % 256) (y / 2 ^ 16 % 256) (y / 2 ^ 24 % 256)
    ∙ ap (λ (x : ℕ). x + y / 2 ^ 16 % 256 * 2 ^ 8 + y / 2 ^ 8 % 256 * 2 ^ 16 + y % 256 * 2 ^ 24) e

pub lane_eq : {b0 b1 a0 a1 : ℕ} → b0 ≡ a0 → b1 ≡ a1 → b0 + b1 * 2 ^ 32 ≡ a0 + a1 * 2 ^ 32
lane_eq e0 e1 = λ i. e0 i + e1 i * 2 ^ 32

module _ (p : List ℕ) where
  place : {i j : ℕ} → i ≡ j → get_or p i 0 ≡ get_or p j 0
  place e = ap (λ (n : ℕ). get_or p n 0) e

  quads_of_lane : (i : ℕ) → lane_at p i ≡ quad_at p (8 * i) + quad_at p (8 * i + 4) * 2 ^ 32
  unfolding lane_at quad_at
  quads_of_lane i =
      let g : ℕ → ℕ = λ n. get_or p n 0 in
      let j : ℕ = 8 * i in
      eight (g j) (g (suc j)) (g (suc (suc j))) (g (suc (suc (suc j)))) (g (suc (suc (suc (suc j))))) (g (suc (suc (suc (suc (suc j))))))
      (g (suc (suc (suc (suc (suc (suc j))))))) (g (suc (suc (suc (suc (suc (suc (suc j))))))))
      ∙ lane_eq (quad_eq (place (omega arith)) (place (omega arith)) (place (omega arith)) (place (omega arith)))
      (quad_eq (place (omega arith)) (place (omega arith)) (place (omega arith)) (place (omega arith)))

  pub lane_of_quads : (i : ℕ) {low high : ℕ} → low ≡ quad_at p (8 * i) → high ≡ quad_at p (8 * i + 4) → low + high * 2 ^ 32 ≡ lane_at p i
  lane_of_quads i e f = lane_eq e f ∙ sym (quads_of_lane i)

-- ---- in the padded message

inside : (l ws : List ℕ) (i k : ℕ) → i ≡ length l + k → k < 4 * length ws → get_or (bytes_of ws) k 0 ≡ get_or (padded (message l ws)) i 0
inside l ws i k e h =
    let d : i - length l ≡ k = omega arith in
    sym
    (pad_inside (message l ws) i (omega (arith, length_message l ws)) ∙ in_words l ws i (omega arith)
    ∙ ap (λ (n : ℕ). get_or (bytes_of ws) n 0) d)

pub quad_inside : (l ws : List ℕ) (i : ℕ) {r : ℕ} → length l ≤ i → i - length l + 4 < 4 * length ws → r ≡ quad_at (bytes_of ws) (i - length l)
    → r ≡ quad_at (padded (message l ws)) i
unfolding quad_at
quad_inside l ws i h k e =
    e
    ∙ quad_eq (inside l ws i (i - length l) (omega arith) (omega arith))
    (inside l ws (i + 1) (i - length l + 1) (omega arith) (omega arith))
    (inside l ws (i + 2) (i - length l + 2) (omega arith) (omega arith))
    (inside l ws (i + 3) (i - length l + 3) (omega arith) (omega arith))

pub quad_zero : (l ws : List ℕ) (i : ℕ) → length l + 4 * length ws < i → i + 3 < (length l + 4 * length ws) / 168 * 168 + 167
    → ◌≡◌ {A = ℕ} 0 (quad_at (padded (message l ws)) i)
unfolding quad_at
quad_zero l ws i h k =
    quad_eq (byte_zero l ws i h (λ e. omega arith)) (byte_zero l ws (i + 1) (omega arith) (λ e. omega arith))
    (byte_zero l ws (i + 2) (omega arith) (λ e. omega arith)) (byte_zero l ws (i + 3) (omega arith) (λ e. omega arith))

quad_last : (l ws : List ℕ) (i : ℕ) → length l + 4 * length ws < i → i + 3 ≡ (length l + 4 * length ws) / 168 * 168 + 167
    → ◌≡◌ {A = ℕ} 0x80000000 (quad_at (padded (message l ws)) i)
unfolding quad_at
quad_last l ws i h e =
    quad_eq (byte_zero l ws i h (λ d. omega arith)) (byte_zero l ws (i + 1) (omega arith) (λ d. omega arith))
    (byte_zero l ws (i + 2) (omega arith) (λ d. omega arith)) (byte_last l ws (i + 3) (omega arith) e)

-- ---- both halves at once

pub lane_inside : (l ws : List ℕ) (i : ℕ) {r : ℕ} → length l ≤ 8 * i → 8 * i - length l + 8 < 4 * length ws
    → r ≡ quad_at (bytes_of ws) (8 * i - length l) + quad_at (bytes_of ws) (8 * i - length l + 4) * 2 ^ 32 → r ≡ lane_at (padded (message l ws)) i
lane_inside l ws i h k e =
    let d : 8 * i - length l + 4 ≡ 8 * i + 4 - length l = omega arith in
    e
    ∙ lane_of_quads (padded (message l ws)) i (quad_inside l ws (8 * i) h (omega arith) refl)
    (quad_inside l ws (8 * i + 4) (omega arith) (omega arith) (ap (quad_at (bytes_of ws)) d))

pub lane_zero : (l ws : List ℕ) (i : ℕ) → length l + 4 * length ws < 8 * i → 8 * i + 7 < (length l + 4 * length ws) / 168 * 168 + 167
    → ◌≡◌ {A = ℕ} 0 (lane_at (padded (message l ws)) i)
lane_zero l ws i h k =
    lane_of_quads (padded (message l ws)) i (quad_zero l ws (8 * i) h (omega arith)) (quad_zero l ws (8 * i + 4) (omega arith) (omega arith))

pub lane_last : (l ws : List ℕ) (i : ℕ) → length l + 4 * length ws < 8 * i → 8 * i + 7 ≡ (length l + 4 * length ws) / 168 * 168 + 167
    → ◌≡◌ {A = ℕ} 0x8000000000000000 (lane_at (padded (message l ws)) i)
lane_last l ws i h e =
    lane_of_quads (padded (message l ws)) i (quad_zero l ws (8 * i) h (omega arith)) (quad_last l ws (8 * i + 4) (omega arith) (omega arith))
