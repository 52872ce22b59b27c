-- The state after blocks of a message, of a longer one, and of the padded one; and the word that is drawn.
-- Assumes nothing.
use mathlib.Core.Path.{◌≡◌, refl, sym, ap, ◌∙◌}
use mathlib.Core.List.{List, [], ◌∷◌, ◌++◌, append_assoc}
use Prim.Native.Nat.{ℕ, zero, suc, ◌+◌, ◌*◌, ◌/◌, ◌%◌, ◌≤◌, ◌<◌}
use native.Mathlib.Numerals.{add-one}
use native.Mathlib.Omega.{arith}
use lib.ListN.{length, get_or, take, length-append, get_or-append}
use lib.Seq.{take-suc}
use Rattle.field.specs.Base.{P}
use Rattle.wire.specs.Bytes.{bytes_of}
use Rattle.wire.proofs.ByteLaws.{bytes_append}
use Rattle.keccak.specs.Values.{values}
use Rattle.keccak.specs.State.{as_list}
use Rattle.keccak.specs.Keccak.{chi, iota, round, rounds, keccak}
use Rattle.keccak.specs.declared.Lanes.{Lanes}
use Rattle.shake.specs.declared.Sponge.{Sponge}
use Rattle.shake.specs.Sponge.{high_first, padded, absorb_block, absorbed, final, lane_byte, bytes, squeezed, shake128}
use Rattle.shake.specs.Drawn.{message, drawn, Holds}
use Rattle.shake.proofs.PadLaws.{length_message, pad_inside}
use Rattle.shake.proofs.BlockLaws.{Same, same_absorb_block}

-- ---- only the bytes of the first k blocks matter

same_absorbed : (p q : List ℕ) (k n : ℕ) → 168 * k ≤ n → Same p q n → absorbed k p ≡ absorbed k q
unfolding absorbed
same_absorbed p q zero n h s = refl
same_absorbed p q (suc k) n h s = same_absorb_block p q k n (omega arith) (same_absorbed p q k n (omega arith) s) s

same_padded : (m : List ℕ) → Same (padded m) m (length m)
unfolding Same
same_padded m i h = pad_inside m i h

-- one more whole block
pub absorb_more : (l ws : List ℕ) (k : ℕ) {t u : List ℕ} → k < (length l + 4 * length ws) / 168
    → t ≡ absorbed k (message l ws) → u ≡ absorb_block t (padded (message l ws)) k → u ≡ absorbed (k + 1) (message l ws)
unfolding absorbed
absorb_more l ws k h e f =
    let m = message l ws in
    rw (add-one k) (f ∙ same_absorb_block (padded m) m k (length m) (omega (arith, length_message l ws)) e (same_padded m))

-- the padded block
pub absorb_last : (l ws : List ℕ) (k : ℕ) {t u : List ℕ} → k ≡ (length l + 4 * length ws) / 168
    → t ≡ absorbed k (message l ws) → u ≡ absorb_block t (padded (message l ws)) k → u ≡ final (message l ws)
unfolding absorbed final
absorb_last l ws k e f g =
    let m = message l ws in
    let n = length_message l ws in
    let q : length (message l ws) / 168 + 1 ≡ suc k = omega arith in
    rw q (g ∙ ap (λ (s : List ℕ). absorb_block s (padded m) k) (f ∙ sym (same_absorbed (padded m) m k (length m) (omega arith) (same_padded m))))

-- ---- the sponge's record

pub holds_end : {s : Sponge} (l ws : List ℕ) → Holds s (message l ws) → s.blocks ≤ (length l + 4 * length ws) / 168
holds_end l ws h = omega (arith, length_message l ws)

pub holds_all : (l ws : List ℕ) (k : ℕ) {t : Lanes} → k ≡ (length l + 4 * length ws) / 168 → as_list t ≡ absorbed k (message l ws)
    → Holds (record { lanes = t; blocks = k }) (message l ws)
holds_all l ws k e f = record { within = omega (arith, length_message l ws); state = f }

-- what was absorbed of a message is absorbed of a longer one
pub holds_longer : {s : Sponge} (m e : List ℕ) → Holds s m → Holds s (m ++ e)
unfolding Same
holds_longer {s} m e h =
    record {
      within = omega (arith, length-append m e);
      state = h.state ∙ same_absorbed m (m ++ e) s.blocks (length m) h.within (λ i l. sym (get_or-append m e 0 i l));
    }

-- words that grow
pub holds_grown : {s : Sponge} (l ws vs : List ℕ) → Holds s (message l ws) → Holds s (message l (ws ++ vs))
unfolding message
holds_grown l ws vs h = rw (bytes_append ws vs, ← append_assoc l (bytes_of ws) (bytes_of vs)) (holds_longer (l ++ bytes_of ws) (bytes_of vs) h)

-- the first words, and the next
pub holds_next : {s : Sponge} (l ws : List ℕ) (n : ℕ) → Holds s (message l (take n ws)) → n < length ws → Holds s (message l (take (n + 1) ws))
holds_next l ws n h k = rw (add-one n, take-suc ws n 0 k) (holds_grown l (take n ws) _ h)

-- ---- the first 8 bytes of output

first_lane : (s : List ℕ) (rest : List ℕ) → 0 < length s → take 8 (bytes (take 21 s) ++ rest) ≡ values (lane_byte (get_or s 0 0)) 0 8
first_lane [] rest h = absurd (omega arith)
first_lane (a ∷ s) rest h = refl

pub length_keccak : (s : List ℕ) → length (keccak s) ≡ 25
unfolding keccak rounds round iota chi
length_keccak s = refl

pub drawn_is : (l ws : List ℕ) {v : List ℕ} {x : ℕ} → 0 < length v → v ≡ final (message l ws) → x ≡ high_first (values (lane_byte (get_or v 0 0)) 0 8)
    → x % P ≡ drawn l ws
unfolding drawn shake128
drawn_is l ws {v} h e f =
    ap (λ (n : ℕ). n % P)
    (f ∙ ap high_first (sym (first_lane v (squeezed 0 (keccak v)) h)) ∙ ap (λ (s : List ℕ). high_first (take 8 (squeezed 1 s))) e)
