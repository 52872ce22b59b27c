-- The turns of the loops that read a number and a list.
-- Assumes nothing.
use Rattle.std.proofs.Common.{◌≡◌, ℕ, zero, suc, ◌+◌, ◌-◌, ◌<◌, ◌≤◌, min, List, [], ◌∷◌, ◌++◌, length, get_or, drop, set, replicate, refl, ap, sym, add-one, arith, drop_of_length-le, length-take-le, drop-cons, le-ltb, lt-ltb}
use Rattle.std.proofs.Math.Nat.{not-suc-le-zero, le_of_suc-le-suc}
use Rattle.cases.specs.Text.{Read, digit_of, grown, number_from, number_at, word_at, element_of, element_at, IsFront, listed, ListAt}

module _ (text : List ℕ) (v i : ℕ) where
  next : i < length text → drop i text ≡ get_or text i 0 ∷ drop (i + 1) text
  next h = rw (add-one, drop-cons text i 0)

  pub digit_more : i < length text → (d w : ℕ) → d ≡ digit_of (get_or text i 0) → d ≤ 9 → w ≡ grown v d → number_from w (i + 1) (drop (i + 1) text) ≡ number_from v i (drop i text)
  unfolding number_from
  digit_more h d w e small g = rw (next h, ← e, lt-ltb d 10 (omega arith), g)

  pub digit_ends : i < length text → (d : ℕ) → d ≡ digit_of (get_or text i 0) → 9 < d → record { value = v; at = i + 1 } ≡ number_from v i (drop i text)
  unfolding number_from
  digit_ends h d e large = rw (next h, ← e, le-ltb d 10 (omega arith))

  pub text_ends : length text ≤ i → record { value = v; at = i } ≡ number_from v i (drop i text)
  unfolding number_from
  text_ends h = rw (drop_of_length-le text h)

-- Four words are an element.
pub element_of_is : (text t u w : List ℕ) (at : ℕ) (a b c d : Read ℕ) → t ≡ text → u ≡ t → w ≡ u
    → a ≡ word_at text at → b ≡ word_at t a.at → c ≡ word_at u b.at → d ≡ word_at w c.at → element_of a b c d ≡ element_at text at
unfolding element_at
element_of_is text t u w at a b c d ht hu hw ea eb ec ed = rw (ed, ec, eb, ea, hw, hu, ht)

-- What is at most the length of words counts some of them, after a change that keeps the length.
pub counts_least : {A : Type 0} (v r : ℕ) (ws ws' : List A) → length ws' ≡ length ws → r ≡ min v (length ws) → IsFront r ws'
counts_least v r ws ws' same e =
    let l : r ≤ length ws' = omega arith in
    (l, sym (length-take-le r ws' l))

module _ {A : Type 0} (f : ℕ → A) (text : List ℕ) (count i at : ℕ) where
  pub list_starts : (ws : List A) → listed f text at ws i (count - 0) ≡ listed f text at ws i count
  list_starts ws =
      let q : count - 0 ≡ count = omega arith in
      rw q

  pub list_more : (ws : List A) → i < count → (t : List ℕ) (w : Read ℕ) (x : A) → t ≡ text → w ≡ number_at t at → x ≡ f w.value → listed f text w.at (set ws i x) (i + 1) (count - (i + 1)) ≡ listed f text at ws i (count - i)
  unfolding listed
  list_more ws h t w x s e g =
      let q : count - i ≡ suc (count - (i + 1)) = omega arith in
      rw (q, g, e, s)

  pub list_ends : (ws ws' : List A) (at₀ : ℕ) (n : Read ℕ) → n ≡ number_at text at₀ → count ≡ min n.value (length ws) → count ≤ i
      → (length ws' ≡ length ws) × (listed f text at ws' i (count - i) ≡ listed f text n.at ws 0 count)
      → ListAt f text at₀ ws ws' (record { count = count; at = at })
  unfolding listed
  list_ends ws ws' at₀ n e m l inv =
      let q : count - i ≡ 0 = omega (arith, l) in
      record {
        fits = counts_least _ _ ws ws' inv.0 m;
        count = rw (← e) m;
        placed = rw (← e) (rw q at inv.1);
      }

-- One place more is filled.
fill_more : {A : Type 0} (i : ℕ) (v : A) (ws : List A) → i < length ws → set (replicate i v ++ drop i ws) i v ≡ replicate (suc i) v ++ drop (suc i) ws
fill_more i v [] h = absurd (not-suc-le-zero h)
fill_more zero v (x ∷ ws) h = refl
fill_more (suc i) v (x ∷ ws) h = ap (λ (t : List _). v ∷ t) (fill_more i v ws (le_of_suc-le-suc h))

pub fill_turn : {A : Type 0} (i : ℕ) (v : A) (ws ws' : List A) → i < length ws → ws' ≡ replicate i v ++ drop i ws → set ws' i v ≡ replicate (i + 1) v ++ drop (i + 1) ws
fill_turn i v ws ws' h e = rw (e, fill_more i v ws h, add-one)
