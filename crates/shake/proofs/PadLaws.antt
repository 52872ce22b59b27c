-- The bytes of a message and of its padding, one by one.
-- Assumes nothing.
use mathlib.Core.Path.{◌≡◌, refl, sym, ap, ◌∙◌}
use mathlib.Core.List.{List, [], ◌∷◌, ◌++◌}
use Prim.Native.Nat.{ℕ, zero, suc, ◌+◌, ◌-◌, ◌*◌, ◌/◌, ◌%◌, ◌≤◌, ◌<◌}
use native.Mathlib.Omega.{arith}
use lib.ListN.{length, get_or, replicate, length-append, length-replicate, get_or-append}
use lib.Seq.{get_or-set_same, get_or-set_other, get_or-append-add}
use Rattle.wire.specs.Bytes.{be4, bytes_of}
use Rattle.wire.proofs.ByteLaws.{bytes_length}
use Rattle.shake.specs.Sponge.{closed, padded}
use Rattle.shake.specs.Drawn.{message}

-- ---- the message

pub length_message : (l ws : List ℕ) → length (message l ws) ≡ length l + 4 * length ws
unfolding message
length_message l ws = length-append l (bytes_of ws) ∙ ap (λ (n : ℕ). length l + n) (bytes_length ws)

pub bytes_at : (ws : List ℕ) (j : ℕ) → j < 4 * length ws → get_or (bytes_of ws) j 0 ≡ get_or (be4 (get_or ws (j / 4) 0)) (j % 4) 0
unfolding bytes_of
bytes_at [] j h = absurd (omega arith)
bytes_at (w ∷ ws) zero h = refl
bytes_at (w ∷ ws) (suc zero) h = refl
bytes_at (w ∷ ws) (suc (suc zero)) h = refl
bytes_at (w ∷ ws) (suc (suc (suc zero))) h = refl
bytes_at (w ∷ ws) (suc (suc (suc (suc j)))) h =
    let q : suc (suc (suc (suc j))) / 4 ≡ suc (j / 4) = omega arith in
    let r : suc (suc (suc (suc j))) % 4 ≡ j % 4 = omega arith in
    rw (q, r) (bytes_at ws j (omega arith))

pub in_label : (l ws : List ℕ) (i : ℕ) → i < length l → get_or (message l ws) i 0 ≡ get_or l i 0
unfolding message
in_label l ws i h = get_or-append l (bytes_of ws) 0 i h

pub in_words : (l ws : List ℕ) (i : ℕ) → length l ≤ i → get_or (message l ws) i 0 ≡ get_or (bytes_of ws) (i - length l) 0
unfolding message
in_words l ws i h =
    let q : i ≡ length l + (i - length l) = omega arith in
    ap (λ (n : ℕ). get_or (l ++ bytes_of ws) n 0) q ∙ get_or-append-add l (bytes_of ws) (i - length l) 0

-- ---- the padding

zeros_at : (n i : ℕ) → ◌≡◌ {A = ℕ} (get_or (replicate n 0) i 0) 0
zeros_at zero i = refl
zeros_at (suc n) zero = refl
zeros_at (suc n) (suc i) = zeros_at n i

module _ (m : List ℕ) where
  length_closed : length (closed m) ≡ length m / 168 * 168 + 168
  length_closed = simp (length-append, length-replicate) (omega arith)

  closed_in : (i : ℕ) → i < length m → get_or (closed m) i 0 ≡ get_or m i 0
  closed_in i h = get_or-append m (31 ∷ replicate (167 - length m % 168) 0) 0 i h

  closed_at : (i : ℕ) → i ≡ length m → get_or (closed m) i 0 ≡ 31
  closed_at i e =
      let q : i ≡ length m + 0 = omega arith in
      ap (λ (n : ℕ). get_or (closed m) n 0) q ∙ get_or-append-add m (31 ∷ replicate (167 - length m % 168) 0) 0 0

  closed_past : (i : ℕ) → length m < i → get_or (closed m) i 0 ≡ 0
  closed_past i h =
      let q : i ≡ length m + suc (i - length m - 1) = omega arith in
      ap (λ (n : ℕ). get_or (closed m) n 0) q
      ∙ get_or-append-add m (31 ∷ replicate (167 - length m % 168) 0) (suc (i - length m - 1)) 0
      ∙ zeros_at (167 - length m % 168) (i - length m - 1)

  at_last : (i : ℕ) → i ≡ length m / 168 * 168 + 167 → get_or (padded m) i 0 ≡ get_or (closed m) i 0 + 128
  unfolding padded
  at_last i e =
      rw e (get_or-set_same (closed m) (length m / 168 * 168 + 167) (get_or (closed m) (length m / 168 * 168 + 167) 0 + 128) 0 (omega (arith, length_closed)))

  elsewhere : (i : ℕ) → (i ≡ length m / 168 * 168 + 167 → ⊥) → get_or (padded m) i 0 ≡ get_or (closed m) i 0
  unfolding padded
  elsewhere i n = get_or-set_other (closed m) (length m / 168 * 168 + 167) i (get_or (closed m) (length m / 168 * 168 + 167) 0 + 128) 0 n

  pub pad_inside : (i : ℕ) → i < length m → get_or (padded m) i 0 ≡ get_or m i 0
  pad_inside i h = elsewhere i (λ e. omega arith) ∙ closed_in i h

  pub pad_both : (i : ℕ) → i ≡ length m → i ≡ length m / 168 * 168 + 167 → get_or (padded m) i 0 ≡ 159
  pad_both i e f = at_last i f ∙ ap (λ (n : ℕ). n + 128) (closed_at i e)

  pub pad_last : (i : ℕ) → length m < i → i ≡ length m / 168 * 168 + 167 → get_or (padded m) i 0 ≡ 128
  pad_last i e f = at_last i f ∙ ap (λ (n : ℕ). n + 128) (closed_past i e)

  pub pad_first : (i : ℕ) → i ≡ length m → (i ≡ length m / 168 * 168 + 167 → ⊥) → get_or (padded m) i 0 ≡ 31
  pad_first i e n = elsewhere i n ∙ closed_at i e

  pub pad_zero : (i : ℕ) → length m < i → (i ≡ length m / 168 * 168 + 167 → ⊥) → get_or (padded m) i 0 ≡ 0
  pad_zero i e n = elsewhere i n ∙ closed_past i e

-- ---- both together, as the code has them: r is byte i of the padded message

module _ (l ws : List ℕ) (i : ℕ) where
  pub byte_label : {r : ℕ} → i < length l → r ≡ get_or l i 0 → r ≡ get_or (padded (message l ws)) i 0
  byte_label h e = e ∙ sym (pad_inside (message l ws) i (omega (arith, length_message l ws)) ∙ in_label l ws i h)

  pub byte_word : {r : ℕ} → length l ≤ i → i < length l + 4 * length ws
      → r ≡ get_or (be4 (get_or ws ((i - length l) / 4) 0)) ((i - length l) % 4) 0 → r ≡ get_or (padded (message l ws)) i 0
  byte_word h k e =
      e ∙ sym (pad_inside (message l ws) i (omega (arith, length_message l ws)) ∙ in_words l ws i h ∙ bytes_at ws (i - length l) (omega arith))

  pub byte_both : i ≡ length l + 4 * length ws → i ≡ (length l + 4 * length ws) / 168 * 168 + 167 → ◌≡◌ {A = ℕ} 159 (get_or (padded (message l ws)) i 0)
  byte_both e f = sym (pad_both (message l ws) i (e ∙ sym (length_message l ws)) (rw (length_message l ws) f))

  pub byte_last : length l + 4 * length ws < i → i ≡ (length l + 4 * length ws) / 168 * 168 + 167 → ◌≡◌ {A = ℕ} 128 (get_or (padded (message l ws)) i 0)
  byte_last h f = sym (pad_last (message l ws) i (rw (length_message l ws) h) (rw (length_message l ws) f))

  pub byte_first : i ≡ length l + 4 * length ws → (i ≡ (length l + 4 * length ws) / 168 * 168 + 167 → ⊥) → ◌≡◌ {A = ℕ} 31 (get_or (padded (message l ws)) i 0)
  byte_first e n = sym (pad_first (message l ws) i (e ∙ sym (length_message l ws)) (rw (length_message l ws) n))

  pub byte_zero : length l + 4 * length ws < i → (i ≡ (length l + 4 * length ws) / 168 * 168 + 167 → ⊥) → ◌≡◌ {A = ℕ} 0 (get_or (padded (message l ws)) i 0)
  byte_zero h n = sym (pad_zero (message l ws) i (rw (length_message l ws) h) (rw (length_message l ws) n))
