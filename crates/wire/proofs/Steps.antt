-- One turn of a search over stored words, and words read and written.
-- Assumes nothing.
use Rattle.std.specs.Prelude.{◌≡◌, Some, None, List, ◌∷◌, ℕ, suc, ◌+◌, ◌*◌, ◌-◌, ◌<◌, ◌≤◌, get_or, drop}
use Rattle.std.proofs.Common.{sym, ◌∙◌, ap, arith, drop-drop, get_or-drop, lt-ltb, le-ltb}
use Rattle.field.specs.Base.{P}
use Rattle.field.specs.declared.Ext.{Ext}
use Rattle.wire.specs.Bytes.{word, words_from, elem}
use Rattle.wire.proofs.ByteLaws.{words_length}
use Rattle.wire.specs.Words.{first_bad, bad_place}
use Rattle.wire.specs.PlaceLaws.{place_at, place_past}

good_first : (s t : List ℕ) (w : ℕ) → s ≡ w ∷ t → w < P → first_bad s ≡ suc (first_bad t)
unfolding first_bad
good_first s t w e h = rw (e, lt-ltb w P h)

bad_first : (s t : List ℕ) (w : ℕ) → s ≡ w ∷ t → P ≤ w → first_bad s ≡ 0
unfolding first_bad
bad_first s t w e h = rw (e, le-ltb w P h)

-- stored words, of which i are passed
stored_next : (s : List ℕ) (at n i : ℕ) → i < n → words_from (n - i) (drop (at + 4 * i) s) ≡ word (drop (at + 4 * i) s) ∷ words_from (n - (i + 1)) (drop (at + 4 * (i + 1)) s)
unfolding words_from
stored_next s at n i h =
    let e : n - i ≡ suc (n - (i + 1)) = omega arith in
    let d : at + 4 * i + 4 ≡ at + 4 * (i + 1) = omega arith in
    ap (λ k. words_from k (drop (at + 4 * i) s)) e ∙ ap (λ l. word (drop (at + 4 * i) s) ∷ words_from (n - (i + 1)) l) (drop-drop 4 (at + 4 * i) s ∙ ap (λ k. drop k s) d)

-- the answer at a word that is not canonical, and after the last
module _ (s : List ℕ) (at n : ℕ) where
  module _ (i w : ℕ) (h : i < n) (e : w ≡ word (drop (at + 4 * i) s)) where
    pub stored_go : w < P → first_bad (words_from (n - i) (drop (at + 4 * i) s)) ≡ suc (first_bad (words_from (n - (i + 1)) (drop (at + 4 * (i + 1)) s)))
    stored_go l = good_first _ _ _ (stored_next s at n i h) (rw e at l)

    stored_stop : P ≤ w → first_bad (words_from (n - i) (drop (at + 4 * i) s)) ≡ 0
    stored_stop l = bad_first _ _ _ (stored_next s at n i h) (rw e at l)

    pub stored_found : P ≤ w → first_bad (words_from n (drop at s)) ≡ i + first_bad (words_from (n - i) (drop (at + 4 * i) s)) → Some i ≡ bad_place (words_from n (drop at s))
    stored_found l f =
        let z = stored_stop l in
        let k : i ≡ first_bad (words_from n (drop at s)) = omega arith in
        ap Some k ∙ sym (place_at (words_from n (drop at s)) (omega (arith, words_length n (drop at s))))

  pub stored_none : (i : ℕ) → n ≤ i → first_bad (words_from n (drop at s)) ≡ i + first_bad (words_from (n - i) (drop (at + 4 * i) s)) → None ≡ bad_place (words_from n (drop at s))
  stored_none i h f = sym (place_past (words_from n (drop at s)) (omega (arith, words_length n (drop at s))))

-- four bytes read one by one, four words read one by one
pub word_read : (s : List ℕ) (at : ℕ) → get_or s at 0 * 16777216 + get_or s (at + 1) 0 * 65536 + get_or s (at + 2) 0 * 256 + get_or s (at + 3) 0 ≡ word (drop at s)
unfolding word
word_read s at =
    let z : at + 0 ≡ at = omega arith in
    let e : get_or (drop at s) 0 0 ≡ get_or s at 0 = get_or-drop at s 0 0 ∙ ap (λ k. get_or s k 0) z in
    rw (e, get_or-drop at s 1 0, get_or-drop at s 2 0, get_or-drop at s 3 0)

pub elem_read : (s : List ℕ) (at a b c d : ℕ) → a ≡ word (drop at s) → b ≡ word (drop (at + 4) s) → c ≡ word (drop (at + 8) s) → d ≡ word (drop (at + 12) s)
    → ◌≡◌ {A = Ext} (record { c0 = a; c1 = b; c2 = c; c3 = d }) (elem (drop at s))
elem_read s at a b c d p q r t = rw (drop-drop 4 at s, drop-drop 8 at s, drop-drop 12 at s, p, q, r, t)
