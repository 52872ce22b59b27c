-- A block: filled lane by lane, xored into a state, and the same of two lists whose bytes are the same there.
-- Assumes nothing.
use mathlib.Core.Path.{◌≡◌, sym, ap, ap₂, ◌∙◌}
use mathlib.Core.List.{List}
use mathlib.Core.Logic.{◌⊎◌, inl, inr, ⊎_elim}
use Prim.Native.Nat.{ℕ, zero, suc, ◌+◌, ◌*◌, ◌≤◌, ◌<◌, zero-le, suc-le-suc}
use native.Mathlib.Omega.{arith}
use lib.ListN.{length, get_or}
use lib.Seq.{ext_get_or}
use Rattle.keccak.specs.Values.{values}
use Rattle.keccak.specs.ValueLaws.{value_at, values_length, same_values, elements}
use Rattle.keccak.specs.Keccak.{keccak}
use Rattle.shake.specs.Sponge.{low_first, lane_at, block_at, xored, absorb_block}

pub lt_or_ge : (i k : ℕ) → (i < k) ⊎ (k ≤ i)
lt_or_ge i zero = inr zero-le
lt_or_ge zero (suc k) = inl (suc-le-suc zero-le)
lt_or_ge (suc i) (suc k) = ⊎_elim (λ p. inl (suc-le-suc p)) (λ q. inr (suc-le-suc q)) (lt_or_ge i k)

-- ---- filling

-- the first n of 21 places hold the values of f from j on
pub record Filled (f : ℕ → ℕ) (j : ℕ) (b : List ℕ) (n : ℕ) : Type 0 where
  pub len : length b ≡ 21
  pub upto : n ≤ 21
  pub held : (i : ℕ) → i < n → get_or b i 0 ≡ f (j + i)

module _ (f : ℕ → ℕ) (j : ℕ) where
  pub all_filled : {b : List ℕ} {n : ℕ} → Filled f j b n → 21 ≤ n → b ≡ values f j 21
  all_filled {b} w h =
      ext_get_or 0 b (values f j 21) (w.len ∙ sym (values_length f j 21))
      (λ i k. w.held i (omega (arith, w.len)) ∙ sym (value_at f j 21 i (omega (arith, w.len))))

-- ---- xored in, and permuted

pub block_absorbed : (s p : List ℕ) (k : ℕ) {b t r : List ℕ} → b ≡ block_at p k → t ≡ xored s (values (λ i. get_or b i 0) 0 21) → r ≡ keccak t
    → r ≡ absorb_block s p k
unfolding absorb_block
block_absorbed s p k {b} e f g =
    let l : length b ≡ 0 + 21 = ap length e ∙ values_length (lane_at p) (21 * k) 21 in
    g ∙ ap keccak (f ∙ ap (xored s) (sym (elements b 0 21 l) ∙ e))

-- ---- only the bytes of a block matter to it

unfoldable pub Same : List ℕ → List ℕ → ℕ → Type 0
Same p q n = (i : ℕ) → i < n → get_or p i 0 ≡ get_or q i 0

module _ (p q : List ℕ) where
  same_lane : (i n : ℕ) → 8 * i + 8 ≤ n → Same p q n → lane_at p i ≡ lane_at q i
  unfolding lane_at Same
  same_lane i n h s = ap low_first (same_values (λ j. get_or p j 0) (λ j. get_or q j 0) (8 * i) 8 (λ j a b. s j (omega arith)))

  same_block : (k n : ℕ) → 168 * k + 168 ≤ n → Same p q n → block_at p k ≡ block_at q k
  same_block k n h s = same_values (lane_at p) (lane_at q) (21 * k) 21 (λ i a b. same_lane i n (omega arith) s)

  pub same_absorb_block : {s t : List ℕ} (k n : ℕ) → 168 * k + 168 ≤ n → s ≡ t → Same p q n → absorb_block s p k ≡ absorb_block t q k
  unfolding absorb_block
  same_absorb_block k n h e s = ap₂ (λ (a b : List ℕ). keccak (xored a b)) e (same_block k n h s)
