-- The bytes of the output, one by one, and the loop that writes them.
-- Assumes nothing.
use mathlib.Core.Path.{◌≡◌, refl, sym, ap, ◌∙◌}
use mathlib.Core.List.{List, [], ◌∷◌, ◌++◌}
use mathlib.Core.Logic.{⊎_elim}
use Prim.Native.Nat.{ℕ, zero, suc, ◌+◌, ◌-◌, ◌*◌, ◌/◌, ◌%◌, ◌≤◌, ◌<◌}
use native.Mathlib.Omega.{arith}
use lib.ListN.{length, get_or, set, take, length-append, length-set, get_or-append}
use lib.Seq.{length-take-le, get_or-take, get_or-append-add, get_or-set_same, get_or-set_other, ext_get_or}
use Rattle.std.specs.Int.{w64, to_le_bytes}
use Rattle.keccak.specs.Keccak.{keccak}
use Rattle.keccak.specs.State.{as_list}
use Rattle.keccak.specs.declared.Lanes.{Lanes}
use Rattle.shake.specs.Sponge.{lane_byte, bytes, squeezed, shake128, final}
use Rattle.shake.proofs.BlockLaws.{lt_or_ge}
use Rattle.shake.proofs.SpongeLaws.{length_keccak}

-- the state after j more permutations
unfoldable pub turns : ℕ → List ℕ → List ℕ
turns zero s = s
turns (suc j) s = turns j (keccak s)

turns_out : (j : ℕ) (s : List ℕ) → turns (suc j) s ≡ keccak (turns j s)
unfolding turns
turns_out zero s = refl
turns_out (suc j) s = turns_out j (keccak s)

-- byte i of the output from s on
abbrev pub byte_at : List ℕ → ℕ → ℕ
byte_at s i = lane_byte (get_or (turns (i / 168) s) (i % 168 / 8) 0) (i % 168 % 8)

-- a byte of a lane, as std has it
pub lane_bytes : (a j : ℕ) → j < 8 → get_or (to_le_bytes w64 a) j 0 ≡ lane_byte a j
lane_bytes a zero h = let e : a % 256 ≡ a / 1 % 256 = omega arith in e
lane_bytes a (suc zero) h = refl
lane_bytes a (suc (suc zero)) h = refl
lane_bytes a (suc (suc (suc zero))) h = refl
lane_bytes a (suc (suc (suc (suc zero)))) h = refl
lane_bytes a (suc (suc (suc (suc (suc zero))))) h = refl
lane_bytes a (suc (suc (suc (suc (suc (suc zero)))))) h = refl
lane_bytes a (suc (suc (suc (suc (suc (suc (suc zero))))))) h = refl
lane_bytes a (suc (suc (suc (suc (suc (suc (suc (suc j)))))))) h = absurd (omega arith)

length_bytes : (s : List ℕ) → length (bytes s) ≡ 8 * length s
length_bytes [] = refl
length_bytes (a ∷ s) = omega (arith, length_bytes s)

bytes_at : (s : List ℕ) (i : ℕ) → i < 8 * length s → get_or (bytes s) i 0 ≡ lane_byte (get_or s (i / 8) 0) (i % 8)
bytes_at [] i h = absurd (omega arith)
bytes_at (a ∷ s) zero h = refl
bytes_at (a ∷ s) (suc zero) h = refl
bytes_at (a ∷ s) (suc (suc zero)) h = refl
bytes_at (a ∷ s) (suc (suc (suc zero))) h = refl
bytes_at (a ∷ s) (suc (suc (suc (suc zero)))) h = refl
bytes_at (a ∷ s) (suc (suc (suc (suc (suc zero))))) h = refl
bytes_at (a ∷ s) (suc (suc (suc (suc (suc (suc zero)))))) h = refl
bytes_at (a ∷ s) (suc (suc (suc (suc (suc (suc (suc zero))))))) h = refl
bytes_at (a ∷ s) (suc (suc (suc (suc (suc (suc (suc (suc i)))))))) h =
    let q : suc (suc (suc (suc (suc (suc (suc (suc i))))))) / 8 ≡ suc (i / 8) = omega arith in
    let r : suc (suc (suc (suc (suc (suc (suc (suc i))))))) % 8 ≡ i % 8 = omega arith in
    rw (q, r) (bytes_at s i (omega arith))

module _ (s : List ℕ) (full : length s ≡ 25) where
  length_front : length (take 21 s) ≡ 21
  length_front = length-take-le 21 s (omega arith)

  length_block : length (bytes (take 21 s)) ≡ 168
  length_block = omega (arith, length_bytes (take 21 s), length_front)

  block_at : (i : ℕ) → i < 168 → get_or (bytes (take 21 s)) i 0 ≡ lane_byte (get_or s (i / 8) 0) (i % 8)
  block_at i h =
      bytes_at (take 21 s) i (omega (arith, length_front)) ∙ ap (λ (a : ℕ). lane_byte a (i % 8)) (get_or-take 21 s (i / 8) 0 (omega arith))

length_squeezed : (k : ℕ) (s : List ℕ) → length s ≡ 25 → length (squeezed k s) ≡ 168 * k
length_squeezed zero s full = refl
length_squeezed (suc k) s full =
    omega (arith, length-append (bytes (take 21 s)) (squeezed k (keccak s)), length_block s full, length_squeezed k (keccak s) (length_keccak s))

squeezed_at : (k : ℕ) (s : List ℕ) → length s ≡ 25 → (i : ℕ) → i < 168 * k → get_or (squeezed k s) i 0 ≡ byte_at s i
unfolding turns
squeezed_at zero s full i h = absurd (omega arith)
squeezed_at (suc k) s full i h =
    ⊎_elim
    (λ l.
    let q : i / 168 ≡ 0 = omega arith in
    let r : i % 168 ≡ i = omega arith in
    get_or-append (bytes (take 21 s)) (squeezed k (keccak s)) 0 i (omega (arith, length_block s full)) ∙ block_at s full i l ∙ rw (q, r))
    (λ g.
    let b = length_block s full in
    let p : i ≡ length (bytes (take 21 s)) + (i - 168) = omega arith in
    let q : i / 168 ≡ suc ((i - 168) / 168) = omega arith in
    let r : i % 168 ≡ (i - 168) % 168 = omega arith in
    ap (λ (n : ℕ). get_or (bytes (take 21 s) ++ squeezed k (keccak s)) n 0) p
    ∙ get_or-append-add (bytes (take 21 s)) (squeezed k (keccak s)) (i - 168) 0
    ∙ squeezed_at k (keccak s) (length_keccak s) (i - 168) (omega arith)
    ∙ rw (q, r))
    (lt_or_ge i 168)

-- ---- the loop: i bytes are written, s is the state that byte i is squeezed out of, and b its lanes

pub record Squeezing (s₀ s : Lanes) (b out₀ out : List ℕ) (i : ℕ) : Type 0 where
  pub len : length out ≡ length out₀
  pub upto : i ≤ length out₀
  pub state : as_list s ≡ turns (i / 168) (as_list s₀)
  pub lanes : b ≡ take 21 (as_list s)
  pub done : (j : ℕ) → j < i → get_or out j 0 ≡ byte_at (as_list s₀) j

pub squeezing_none : {s : Lanes} {b out : List ℕ} → b ≡ take 21 (as_list s) → Squeezing s s b out out 0
unfolding turns
squeezing_none e = record { len = refl; upto = omega arith; state = refl; lanes = e; done = λ j h. absurd (omega arith) }

module _ {s₀ s : Lanes} {b out₀ out : List ℕ} {i v : ℕ} (w : Squeezing s₀ s b out₀ out i) (l : i < length out)
    (e : v ≡ lane_byte (get_or b (i % 168 / 8) 0) (i % 168 % 8)) where
  written : v ≡ byte_at (as_list s₀) i
  written =
      e
      ∙ ap (λ (a : ℕ). lane_byte a (i % 168 % 8))
      (ap (λ (t : List ℕ). get_or t (i % 168 / 8) 0) w.lanes ∙ get_or-take 21 (as_list s) (i % 168 / 8) 0 (omega arith)
      ∙ ap (λ (t : List ℕ). get_or t (i % 168 / 8) 0) w.state)

  next_done : (j : ℕ) → j < i + 1 → get_or (set out i v) j 0 ≡ byte_at (as_list s₀) j
  next_done j h =
      ⊎_elim
      (λ k. get_or-set_other out i j v 0 (λ q. omega arith) ∙ w.done j k)
      (λ k.
      let q : j ≡ i = omega arith in
      rw q (get_or-set_same out i v 0 l ∙ written))
      (lt_or_ge j i)

  pub squeezing_same : ((i + 1) % 168 ≡ 0 → ⊥) → Squeezing s₀ s b out₀ (set out i v) (i + 1)
  squeezing_same n =
      let q : (i + 1) / 168 ≡ i / 168 = omega arith in
      record { len = length-set out i v ∙ w.len; upto = omega (arith, w.len); state = w.state ∙ rw q; lanes = w.lanes; done = next_done }

  pub squeezing_next : {t : Lanes} {c : List ℕ} → (i + 1) % 168 ≡ 0 → as_list t ≡ keccak (as_list s) → c ≡ take 21 (as_list t)
      → Squeezing s₀ t c out₀ (set out i v) (i + 1)
  squeezing_next z f g =
      let q : (i + 1) / 168 ≡ suc (i / 168) = omega arith in
      record {
        len = length-set out i v ∙ w.len;
        upto = omega (arith, w.len);
        state = f ∙ ap keccak w.state ∙ sym (turns_out (i / 168) (as_list s₀)) ∙ rw q;
        lanes = g;
        done = next_done;
      }

pub squeezing_all : {s₀ s : Lanes} {b out₀ out : List ℕ} {i : ℕ} (m : List ℕ) → Squeezing s₀ s b out₀ out i → length out ≤ i → as_list s₀ ≡ final m
    → out ≡ shake128 m (length out₀)
unfolding shake128
squeezing_all {s₀} {s} {b} {out₀} {out} {i} m w h e =
    let n = length out₀ in
    let k = length out₀ / 168 + 1 in
    let z = length_squeezed k (as_list s₀) refl in
    let g = length-take-le n (squeezed k (as_list s₀)) (omega arith) in
    ext_get_or 0 out (take n (squeezed k (as_list s₀))) (w.len ∙ sym g)
    (λ j l.
    w.done j (omega (arith, w.len))
    ∙ sym (get_or-take n (squeezed k (as_list s₀)) j 0 (omega (arith, w.len)) ∙ squeezed_at k (as_list s₀) refl j (omega (arith, w.len))))
    ∙ ap (λ (t : List ℕ). take n (squeezed k t)) e
