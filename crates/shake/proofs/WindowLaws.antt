-- Four bytes that lie across two words.
-- Assumes nothing.
use mathlib.Core.Path.{◌≡◌, sym, ap, ap₂, ◌∙◌}
use mathlib.Core.List.{List}
use Prim.Native.Nat.{ℕ, zero, suc, ◌+◌, ◌-◌, ◌*◌, ◌/◌, ◌%◌, ◌^◌, ◌<◌}
use native.Mathlib.Omega.{arith}
use lib.ListN.{length, get_or}
use Rattle.wire.specs.Bytes.{be4, bytes_of}
use Rattle.shake.specs.Quads.{quad_at}
use Rattle.shake.proofs.PadLaws.{bytes_at}
use Rattle.shake.proofs.QuadLaws.{quad_eq}

-- the four bytes of y, turned
abbrev pub turned_quad : ℕ → ℕ
turned_quad y = y / 2 ^ 24 + y / 2 ^ 16 % 256 * 2 ^ 8 + y / 2 ^ 8 % 256 * 2 ^ 16 + y % 256 * 2 ^ 24

-- 32 bits of two words side by side, from byte r of the first on
abbrev pub across : ℕ → ℕ → ℕ → ℕ
across v w r = (v * 2 ^ 32 + w) / 2 ^ (32 - 8 * r) % 2 ^ 32

-- ---- for each r, these bits, and each of their bytes; omega takes one at a time

across_0 : (v w : ℕ) → v < 2 ^ 32 → w < 2 ^ 32 → across v w 0 ≡ v
across_0 v w h k = omega arith

byte_0_0 : (v w y : ℕ) → v < 2 ^ 32 → w < 2 ^ 32 → y ≡ v → y / 2 ^ 24 ≡ v / 16777216
byte_0_0 v w y h k e = omega arith

byte_0_1 : (v w y : ℕ) → v < 2 ^ 32 → w < 2 ^ 32 → y ≡ v → y / 2 ^ 16 % 256 ≡ v / 65536 % 256
byte_0_1 v w y h k e = omega arith

byte_0_2 : (v w y : ℕ) → v < 2 ^ 32 → w < 2 ^ 32 → y ≡ v → y / 2 ^ 8 % 256 ≡ v / 256 % 256
byte_0_2 v w y h k e = omega arith

byte_0_3 : (v w y : ℕ) → v < 2 ^ 32 → w < 2 ^ 32 → y ≡ v → y % 256 ≡ v % 256
byte_0_3 v w y h k e = omega arith

turned_0 : (v w : ℕ) → v < 2 ^ 32 → w < 2 ^ 32 → turned_quad (across v w 0) ≡ v / 16777216 + v / 65536 % 256 * 2 ^ 8 + v / 256 % 256 * 2 ^ 16 + v % 256 * 2 ^ 24
turned_0 v w h k =
    let e = across_0 v w h k in
    quad_eq (byte_0_0 v w (across v w 0) h k e) (byte_0_1 v w (across v w 0) h k e) (byte_0_2 v w (across v w 0) h k e) (byte_0_3 v w (across v w 0) h k e)

across_1 : (v w : ℕ) → v < 2 ^ 32 → w < 2 ^ 32 → across v w 1 ≡ (v * 2 ^ 8 + w / 2 ^ 24) % 2 ^ 32
across_1 v w h k = omega arith

byte_1_0 : (v w y : ℕ) → v < 2 ^ 32 → w < 2 ^ 32 → y ≡ (v * 2 ^ 8 + w / 2 ^ 24) % 2 ^ 32 → y / 2 ^ 24 ≡ v / 65536 % 256
byte_1_0 v w y h k e = omega arith

byte_1_1 : (v w y : ℕ) → v < 2 ^ 32 → w < 2 ^ 32 → y ≡ (v * 2 ^ 8 + w / 2 ^ 24) % 2 ^ 32 → y / 2 ^ 16 % 256 ≡ v / 256 % 256
byte_1_1 v w y h k e = omega arith

byte_1_2 : (v w y : ℕ) → v < 2 ^ 32 → w < 2 ^ 32 → y ≡ (v * 2 ^ 8 + w / 2 ^ 24) % 2 ^ 32 → y / 2 ^ 8 % 256 ≡ v % 256
byte_1_2 v w y h k e = omega arith

byte_1_3 : (v w y : ℕ) → v < 2 ^ 32 → w < 2 ^ 32 → y ≡ (v * 2 ^ 8 + w / 2 ^ 24) % 2 ^ 32 → y % 256 ≡ w / 16777216
byte_1_3 v w y h k e = omega arith

turned_1 : (v w : ℕ) → v < 2 ^ 32 → w < 2 ^ 32 → turned_quad (across v w 1) ≡ v / 65536 % 256 + v / 256 % 256 * 2 ^ 8 + v % 256 * 2 ^ 16 + w / 16777216 * 2 ^ 24
turned_1 v w h k =
    let e = across_1 v w h k in
    quad_eq (byte_1_0 v w (across v w 1) h k e) (byte_1_1 v w (across v w 1) h k e) (byte_1_2 v w (across v w 1) h k e) (byte_1_3 v w (across v w 1) h k e)

across_2 : (v w : ℕ) → v < 2 ^ 32 → w < 2 ^ 32 → across v w 2 ≡ (v * 2 ^ 16 + w / 2 ^ 16) % 2 ^ 32
across_2 v w h k = omega arith

byte_2_0 : (v w y : ℕ) → v < 2 ^ 32 → w < 2 ^ 32 → y ≡ (v * 2 ^ 16 + w / 2 ^ 16) % 2 ^ 32 → y / 2 ^ 24 ≡ v / 256 % 256
byte_2_0 v w y h k e = omega arith

byte_2_1 : (v w y : ℕ) → v < 2 ^ 32 → w < 2 ^ 32 → y ≡ (v * 2 ^ 16 + w / 2 ^ 16) % 2 ^ 32 → y / 2 ^ 16 % 256 ≡ v % 256
byte_2_1 v w y h k e = omega arith

byte_2_2 : (v w y : ℕ) → v < 2 ^ 32 → w < 2 ^ 32 → y ≡ (v * 2 ^ 16 + w / 2 ^ 16) % 2 ^ 32 → y / 2 ^ 8 % 256 ≡ w / 16777216
byte_2_2 v w y h k e = omega arith

byte_2_3 : (v w y : ℕ) → v < 2 ^ 32 → w < 2 ^ 32 → y ≡ (v * 2 ^ 16 + w / 2 ^ 16) % 2 ^ 32 → y % 256 ≡ w / 65536 % 256
byte_2_3 v w y h k e = omega arith

turned_2 : (v w : ℕ) → v < 2 ^ 32 → w < 2 ^ 32 → turned_quad (across v w 2) ≡ v / 256 % 256 + v % 256 * 2 ^ 8 + w / 16777216 * 2 ^ 16 + w / 65536 % 256 * 2 ^ 24
turned_2 v w h k =
    let e = across_2 v w h k in
    quad_eq (byte_2_0 v w (across v w 2) h k e) (byte_2_1 v w (across v w 2) h k e) (byte_2_2 v w (across v w 2) h k e) (byte_2_3 v w (across v w 2) h k e)

across_3 : (v w : ℕ) → v < 2 ^ 32 → w < 2 ^ 32 → across v w 3 ≡ (v * 2 ^ 24 + w / 2 ^ 8) % 2 ^ 32
across_3 v w h k = omega arith

byte_3_0 : (v w y : ℕ) → v < 2 ^ 32 → w < 2 ^ 32 → y ≡ (v * 2 ^ 24 + w / 2 ^ 8) % 2 ^ 32 → y / 2 ^ 24 ≡ v % 256
byte_3_0 v w y h k e = omega arith

byte_3_1 : (v w y : ℕ) → v < 2 ^ 32 → w < 2 ^ 32 → y ≡ (v * 2 ^ 24 + w / 2 ^ 8) % 2 ^ 32 → y / 2 ^ 16 % 256 ≡ w / 16777216
byte_3_1 v w y h k e = omega arith

byte_3_2 : (v w y : ℕ) → v < 2 ^ 32 → w < 2 ^ 32 → y ≡ (v * 2 ^ 24 + w / 2 ^ 8) % 2 ^ 32 → y / 2 ^ 8 % 256 ≡ w / 65536 % 256
byte_3_2 v w y h k e = omega arith

byte_3_3 : (v w y : ℕ) → v < 2 ^ 32 → w < 2 ^ 32 → y ≡ (v * 2 ^ 24 + w / 2 ^ 8) % 2 ^ 32 → y % 256 ≡ w / 256 % 256
byte_3_3 v w y h k e = omega arith

turned_3 : (v w : ℕ) → v < 2 ^ 32 → w < 2 ^ 32 → turned_quad (across v w 3) ≡ v % 256 + w / 16777216 * 2 ^ 8 + w / 65536 % 256 * 2 ^ 16 + w / 256 % 256 * 2 ^ 24
turned_3 v w h k =
    let e = across_3 v w h k in
    quad_eq (byte_3_0 v w (across v w 3) h k e) (byte_3_1 v w (across v w 3) h k e) (byte_3_2 v w (across v w 3) h k e) (byte_3_3 v w (across v w 3) h k e)

-- ---- as bytes of the words

byte_at : (ws : List ℕ) (i q t : ℕ) → i ≡ 4 * q + t → t < 4 → i < 4 * length ws → get_or (be4 (get_or ws q 0)) t 0 ≡ get_or (bytes_of ws) i 0
byte_at ws i q t e h k =
    let a : i / 4 ≡ q = omega arith in
    let b : i % 4 ≡ t = omega arith in
    sym (bytes_at ws i k ∙ ap₂ (λ (x y : ℕ). get_or (be4 (get_or ws x 0)) y 0) a b)

pub window_at : (ws : List ℕ) (j q r v w : ℕ) → j ≡ 4 * q + r → r < 4 → j + 4 < 4 * length ws → v ≡ get_or ws q 0 → w ≡ get_or ws (q + 1) 0
    → v < 2 ^ 32 → w < 2 ^ 32 → turned_quad (across v w r) ≡ quad_at (bytes_of ws) j
unfolding quad_at
window_at ws j q zero v w e h l ev ew hv hw =
    turned_0 v w hv hw
    ∙ quad_eq
    (ap (λ (x : ℕ). x / 16777216) ev ∙ byte_at ws j q 0 (omega arith) (omega arith) (omega arith))
    (ap (λ (x : ℕ). x / 65536 % 256) ev ∙ byte_at ws (j + 1) q 1 (omega arith) (omega arith) (omega arith))
    (ap (λ (x : ℕ). x / 256 % 256) ev ∙ byte_at ws (j + 2) q 2 (omega arith) (omega arith) (omega arith))
    (ap (λ (x : ℕ). x % 256) ev ∙ byte_at ws (j + 3) q 3 (omega arith) (omega arith) (omega arith))
window_at ws j q (suc zero) v w e h l ev ew hv hw =
    turned_1 v w hv hw
    ∙ quad_eq
    (ap (λ (x : ℕ). x / 65536 % 256) ev ∙ byte_at ws j q 1 (omega arith) (omega arith) (omega arith))
    (ap (λ (x : ℕ). x / 256 % 256) ev ∙ byte_at ws (j + 1) q 2 (omega arith) (omega arith) (omega arith))
    (ap (λ (x : ℕ). x % 256) ev ∙ byte_at ws (j + 2) q 3 (omega arith) (omega arith) (omega arith))
    (ap (λ (x : ℕ). x / 16777216) ew ∙ byte_at ws (j + 3) (q + 1) 0 (omega arith) (omega arith) (omega arith))
window_at ws j q (suc (suc zero)) v w e h l ev ew hv hw =
    turned_2 v w hv hw
    ∙ quad_eq
    (ap (λ (x : ℕ). x / 256 % 256) ev ∙ byte_at ws j q 2 (omega arith) (omega arith) (omega arith))
    (ap (λ (x : ℕ). x % 256) ev ∙ byte_at ws (j + 1) q 3 (omega arith) (omega arith) (omega arith))
    (ap (λ (x : ℕ). x / 16777216) ew ∙ byte_at ws (j + 2) (q + 1) 0 (omega arith) (omega arith) (omega arith))
    (ap (λ (x : ℕ). x / 65536 % 256) ew ∙ byte_at ws (j + 3) (q + 1) 1 (omega arith) (omega arith) (omega arith))
window_at ws j q (suc (suc (suc zero))) v w e h l ev ew hv hw =
    turned_3 v w hv hw
    ∙ quad_eq
    (ap (λ (x : ℕ). x % 256) ev ∙ byte_at ws j q 3 (omega arith) (omega arith) (omega arith))
    (ap (λ (x : ℕ). x / 16777216) ew ∙ byte_at ws (j + 1) (q + 1) 0 (omega arith) (omega arith) (omega arith))
    (ap (λ (x : ℕ). x / 65536 % 256) ew ∙ byte_at ws (j + 2) (q + 1) 1 (omega arith) (omega arith) (omega arith))
    (ap (λ (x : ℕ). x / 256 % 256) ew ∙ byte_at ws (j + 3) (q + 1) 2 (omega arith) (omega arith) (omega arith))
window_at ws j q (suc (suc (suc (suc r)))) v w e h l ev ew hv hw = absurd (omega arith)
