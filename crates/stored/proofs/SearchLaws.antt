-- The search for a bad word through the polynomial entries, and through the whole proof.
-- Assumes nothing.
use mathlib.Core.Path.{◌≡◌, sym, ◌∙◌, ap, ap₂, subst}
use mathlib.Core.Bool.{true}
use mathlib.Core.List.{List, ◌++◌, append_assoc}
use Prim.Native.Nat.{ℕ, suc, ◌+◌, ◌*◌, ◌-◌, ◌/◌, ◌<◌, ◌≤◌}
use native.Mathlib.Omega.{arith}
use lib.ListN.{length, length-append, get_or, drop}
use lib.Seq.{drop-drop}
use Rattle.std.specs.Prelude.{Some, None}
use Rattle.wire.specs.Bytes.{words_from}
use Rattle.wire.specs.Words.{first_bad, bad_place}
use Rattle.wire.specs.WordLaws.{bad_past}
use Rattle.wire.specs.PlaceLaws.{place_at, place_past, past_place, at_place, place_here, place_later, place_nowhere}
use Rattle.wire.proofs.ByteLaws.{elem_words, words_add, words_length}
use Rattle.stored.specs.declared.Outline.{Outline}
use Rattle.stored.specs.Layout.{polys_words, proof_words}
use Rattle.stored.specs.Parse.{entries_from, entries_fit, count_of_layers, proof_of}
use Rattle.stored.specs.ParseLaws.{Entry, entry_fits, Shaped}
use Rattle.stored.proofs.ReadWords.{claims_words_is, entries_words, proof_size}

-- THE ENTRIES: `passed` words are canonical, and what is left of the search is at `at`
module _ (bs W : List ℕ) (n : ℕ) where
  -- the words of the entries from entry k on
  abbrev pub words_left : (at k : ℕ) → List ℕ
  words_left at k = polys_words (entries_from (n - k) (drop at bs))

  -- before entry k
  pub record Passed (passed at k : ℕ) : Type 0 where
    pub upto : k ≤ n
    pub within : at ≤ length bs
    pub small : 4 * passed ≤ at
    pub fit : entries_fit (n - k) (drop at bs) ≡ true
    pub left : first_bad W ≡ passed + first_bad (words_left at k)
    pub long : length W ≡ passed + length (words_left at k)

  pub start : (from : ℕ) → W ≡ polys_words (entries_from n (drop from bs)) → from ≤ length bs → entries_fit n (drop from bs) ≡ true → Passed 0 from 0
  start from w l h =
      let e : n - 0 ≡ n = omega arith in
      record { upto = omega arith; within = l; small = omega arith; fit = rw e h; left = ap first_bad w ∙ rw e (omega arith); long = ap length w ∙ rw e (omega arith) }

  -- in entry k, with q sub-rounds of it left
  abbrev pub words_ahead : (at k q : ℕ) → List ℕ
  words_ahead at k q = words_from (12 * q) (drop at bs) ++ words_left (at + 48 * q) (k + 1)

  pub record Inner (passed at k q : ℕ) : Type 0 where
    pub more : k < n
    pub within : at + 48 * q ≤ length bs
    pub small : 4 * passed ≤ at
    pub fit : entries_fit (n - (k + 1)) (drop (at + 48 * q) bs) ≡ true
    pub left : first_bad W ≡ passed + first_bad (words_ahead at k q)
    pub long : length W ≡ passed + length (words_ahead at k q)

  module _ (passed at k : ℕ) (o : Passed passed at k) (h : k < n) where
    left_one : n - k ≡ suc (n - (k + 1))
    left_one = omega arith

    entry : Entry (n - (k + 1)) at bs
    entry = entry_fits (n - (k + 1)) at bs o.within (rw left_one at o.fit)

    pub here : at < length bs
    here = omega (arith, entry.room)

    pub enter : (c : ℕ) → c ≡ get_or bs at 0 → Inner passed (at + 1) k c
    enter c d =
        let e : words_left at k ≡ words_ahead (at + 1) k c = ap (λ m. polys_words (entries_from m (drop at bs))) left_one ∙ entries_words (n - (k + 1)) at bs ∙ ap (λ m. words_ahead (at + 1) k m) (sym d) in
        record {
          more = h;
          within = omega (arith, entry.room, d);
          small = omega (arith, o.small);
          fit = rw d entry.fit;
          left = o.left ∙ ap (λ l. passed + first_bad l) e;
          long = o.long ∙ ap (λ l. passed + length l) e;
        }

  module _ (passed at k q : ℕ) (i : Inner passed at k (suc q)) where
    abbrev now : List ℕ
    now = words_from 12 (drop at bs)

    abbrev then : List ℕ
    then = words_from (12 * q) (drop (at + 48) bs) ++ words_left (at + 48 * suc q) (k + 1)

    opened : words_ahead at k (suc q) ≡ now ++ then
    opened =
        let f : 12 * suc q ≡ 12 + 12 * q = omega arith in
        let a : words_from (12 * suc q) (drop at bs) ≡ now ++ words_from (12 * q) (drop (at + 48) bs) =
        ap (λ m. words_from m (drop at bs)) f ∙ words_add 12 (12 * q) (drop at bs) ∙ ap (λ l. now ++ words_from (12 * q) l) (drop-drop 48 at bs) in
        ap (λ l. l ++ words_left (at + 48 * suc q) (k + 1)) a ∙ append_assoc now (words_from (12 * q) (drop (at + 48) bs)) (words_left (at + 48 * suc q) (k + 1))

    go : None ≡ bad_place now → Inner (passed + 12) (at + 48) k q
    go e =
        let l = words_length 12 (drop at bs) in
        let p = bad_past now then (past_place now e) in
        let f = ap first_bad opened in
        let g = ap length opened ∙ length-append now then in
        let z : at + 48 * suc q ≡ at + 48 + 48 * q = omega arith in
        let t : first_bad W ≡ passed + 12 + first_bad then = omega (arith, i.left, f, p, l) in
        let u : length W ≡ passed + 12 + length then = omega (arith, i.long, g, l) in
        record { more = i.more; within = omega (arith, i.within); small = omega (arith, i.small); fit = rw z at i.fit; left = rw z at t; long = rw z at u }

    stop : (b : ℕ) → Some b ≡ bad_place now → Some (passed + b) ≡ bad_place W
    stop b e =
        let t = at_place (words_ahead at k (suc q)) b (place_here now then b e ∙ ap bad_place (sym opened)) in
        let g : passed + b ≡ first_bad W = omega (arith, i.left, t.0) in
        ap Some g ∙ sym (place_at W (omega (arith, i.long, t.0, t.1)))

    stop_small : (b : ℕ) → Some b ≡ bad_place now → passed + b ≤ length bs
    stop_small b e = let t = at_place now b e in omega (arith, t.0, t.1, words_length 12 (drop at bs), i.small, i.within)

  -- the same where j of c sub-rounds are passed
  module _ (passed at k c j : ℕ) (h : j < c) (i : Inner passed at k (c - j)) where
    inner : Inner passed at k (suc (c - (j + 1)))
    inner = let z : c - j ≡ suc (c - (j + 1)) = omega arith in subst (Inner passed at k) z i

    pub room : at + 48 ≤ length bs
    room = omega (arith, inner.within)

    pub turn : None ≡ bad_place (words_from 12 (drop at bs)) → Inner (passed + 12) (at + 48) k (c - (j + 1))
    turn e = go passed at k (c - (j + 1)) inner e

    pub hit : (b : ℕ) → Some b ≡ bad_place (words_from 12 (drop at bs)) → Some (passed + b) ≡ bad_place W
    hit b e = stop passed at k (c - (j + 1)) inner b e

    pub hit_small : (b : ℕ) → Some b ≡ bad_place (words_from 12 (drop at bs)) → passed + b ≤ length bs
    hit_small b e = stop_small passed at k (c - (j + 1)) inner b e

  pub leave : (passed at k q : ℕ) → q ≡ 0 → Inner passed at k q → Passed passed at (k + 1)
  unfolding words_from
  leave passed at k q e i₀ =
      let i = subst (Inner passed at k) e i₀ in
      let z : at + 48 * 0 ≡ at = omega arith in
      record { upto = omega (arith, i.more); within = omega (arith, i.within); small = i.small; fit = rw z at i.fit; left = rw z at i.left; long = rw z at i.long }

  pub finish : (passed at k : ℕ) → Passed passed at k → n ≤ k → None ≡ bad_place W
  unfolding entries_from polys_words first_bad
  finish passed at k i h =
      let z : n - k ≡ 0 = omega arith in
      let t = rw z at i.left in
      let l = rw z at i.long in
      sym (place_past W (omega (arith, t, l)))

-- THE WHOLE PROOF
pub size_most : (bs : List ℕ) (o : Outline) → Shaped bs o → 7 + o.entries ≤ length bs
size_most bs o s = omega (arith, proof_size bs s.reads, s.entries)

module _ (bs : List ℕ) (o : Outline) (s : Shaped bs o) where
  C : List ℕ
  C = words_from (16 * o.layers) (drop 22 bs)

  R : List ℕ
  R = polys_words (entries_from o.entries (drop o.polys bs))

  whole : proof_words (proof_of bs) ≡ words_from 4 (drop 5 bs) ++ (C ++ R)
  unfolding C R
  whole =
      let c = claims_words_is (count_of_layers bs) (drop 22 bs) ∙ ap (λ n. words_from (16 * n) (drop 22 bs)) (sym s.layers) in
      let r : polys_words (proof_of bs).polys ≡ R = ap₂ (λ (n m : ℕ). polys_words (entries_from n (drop m bs))) (sym s.entries) (sym s.polys) in
      ap₂ ◌++◌ (elem_words (drop 5 bs)) (ap₂ ◌++◌ c r)

  -- found in the root, in the claims, in the entries, or nowhere
  pub bad_root : (a : ℕ) → Some a ≡ bad_place (words_from 4 (drop 5 bs)) → Some a ≡ bad_place (proof_words (proof_of bs))
  bad_root a p = place_here (words_from 4 (drop 5 bs)) (C ++ R) a p ∙ ap bad_place (sym whole)

  module _ (p : None ≡ bad_place (words_from 4 (drop 5 bs))) where
    pub bad_claim : (a : ℕ) → Some a ≡ bad_place (words_from (16 * o.layers) (drop 22 bs)) → Some (4 + a) ≡ bad_place (proof_words (proof_of bs))
    unfolding C
    bad_claim a q =
        ap (λ n. Some (n + a)) (sym (words_length 4 (drop 5 bs)))
        ∙ place_later (words_from 4 (drop 5 bs)) (C ++ R) a p (place_here C R a q)
        ∙ ap bad_place (sym whole)

    module _ (q : None ≡ bad_place (words_from (16 * o.layers) (drop 22 bs))) where
      pub bad_entry : (a : ℕ) → Some a ≡ bad_place (polys_words (entries_from o.entries (drop o.polys bs))) → Some (4 + 16 * o.layers + a) ≡ bad_place (proof_words (proof_of bs))
      unfolding C R
      bad_entry a r =
          let l = words_length 4 (drop 5 bs) in
          let m = words_length (16 * o.layers) (drop 22 bs) in
          let e : 4 + 16 * o.layers + a ≡ length (words_from 4 (drop 5 bs)) + (length C + a) = omega (arith, l, m) in
          ap Some e
          ∙ place_later (words_from 4 (drop 5 bs)) (C ++ R) (length C + a) p (place_later C R a q r)
          ∙ ap bad_place (sym whole)

      pub none_bad : None ≡ bad_place (polys_words (entries_from o.entries (drop o.polys bs))) → None ≡ bad_place (proof_words (proof_of bs))
      unfolding C R
      none_bad r = place_nowhere (words_from 4 (drop 5 bs)) (C ++ R) p (place_nowhere C R q r) ∙ ap bad_place (sym whole)

  -- the words there are few, so that a place among them is
  pub claim_small : (a : ℕ) → Some a ≡ bad_place (words_from (16 * o.layers) (drop 22 bs)) → 4 + a ≤ length bs
  claim_small a q =
      let t = at_place (words_from (16 * o.layers) (drop 22 bs)) a q in
      omega (arith, t.0, t.1, words_length (16 * o.layers) (drop 22 bs), s.reads.room, s.layers)

  pub entry_small : (a : ℕ) → Some a ≡ bad_place (polys_words (entries_from o.entries (drop o.polys bs))) → 4 + 16 * o.layers + a ≤ length bs
  unfolding C R
  entry_small a r =
      let t = at_place (polys_words (entries_from o.entries (drop o.polys bs))) a r in
      let w = ap length whole ∙ length-append (words_from 4 (drop 5 bs)) (C ++ R) in
      let x = length-append C R in
      omega (arith, t.0, t.1, w, x, words_length 4 (drop 5 bs), words_length (16 * o.layers) (drop 22 bs), proof_size bs s.reads)

-- how many words there are
pub word_total : (bs : List ℕ) (o : Outline) → Shaped bs o → (length bs - 7 - o.entries) / 4 ≡ length (proof_words (proof_of bs))
word_total bs o s = omega (arith, proof_size bs s.reads, s.entries)
