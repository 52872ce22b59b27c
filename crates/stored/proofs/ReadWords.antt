-- The words of what is read are the words stored there, and what canonical words say of the elements read.
-- Assumes nothing.
use Rattle.std.specs.Prelude.{◌≡◌, refl, true, List, ◌∷◌, ◌++◌, ℕ, zero, suc, ◌+◌, ◌*◌, ◌≤◌, length, get_or, drop}
use Rattle.std.proofs.Common.{sym, ◌∙◌, ap, ap₂, arith, eqb-true, length-append, length-drop, drop-drop}
use Rattle.field.specs.Element.{Canon}
use Rattle.field.specs.declared.Ext.{Ext}
use Rattle.multilinear.specs.RoundSum.{Claims}
use Rattle.gkr.specs.Run.{Cubic, Proof}
use Rattle.wire.specs.Bytes.{words_from, elem}
use Rattle.wire.specs.Words.{all_canonical, ext_words}
use Rattle.wire.proofs.ByteLaws.{elem_words, words_add, words_length}
use Rattle.wire.specs.WordLaws.{canonical_left, canonical_right, canonical_elem}
use Rattle.stored.specs.Layout.{claim_words, cubic_words, claims_words, cubics_words, polys_words, proof_words}
use Rattle.stored.specs.Parse.{claims_of, cubic_of, claims_from, cubics_from, entries_from, entries_fit, count_of_layers, count_of_entries, polys_at, proof_of}
use Rattle.stored.specs.ParseLaws.{entries_step, entry_fits, Reads}
use Rattle.stored.specs.ReadWords.{CanonClaims, CanonCubic}

-- an element in front of n words
elem_more : (n : ℕ) (bs : List ℕ) → ext_words (elem bs) ++ words_from n (drop 16 bs) ≡ words_from (4 + n) bs
elem_more n bs = ap (λ l. l ++ words_from n (drop 16 bs)) (elem_words bs) ∙ sym (words_add 4 n bs)

pub cubic_words_is : (bs : List ℕ) → cubic_words (cubic_of bs) ≡ words_from 12 bs
cubic_words_is bs =
    let a = elem_words (drop 32 bs) ∙ ap (words_from 4) (sym (drop-drop 16 16 bs)) in
    ap (λ l. ext_words (elem bs) ++ (ext_words (elem (drop 16 bs)) ++ l)) a ∙ ap (λ l. ext_words (elem bs) ++ l) (elem_more 4 (drop 16 bs)) ∙ elem_more 8 bs

pub claim_words_is : (bs : List ℕ) → claim_words (claims_of bs) ≡ words_from 16 bs
claim_words_is bs =
    let p : drop 48 bs ≡ drop 32 (drop 16 bs) = sym (drop-drop 32 16 bs) in
    let q : drop 32 bs ≡ drop 16 (drop 16 bs) = sym (drop-drop 16 16 bs) in
    ap₂ (λ (x y : List ℕ). ext_words (elem bs) ++ (ext_words (elem (drop 16 bs)) ++ (ext_words (elem x) ++ ext_words (elem y)))) q p
    ∙ ap (λ l. ext_words (elem bs) ++ l) (cubic_words_is (drop 16 bs))
    ∙ elem_more 12 bs

pub cubics_words_is : (k : ℕ) (bs : List ℕ) → cubics_words (cubics_from k bs) ≡ words_from (12 * k) bs
unfolding cubics_words cubics_from words_from
cubics_words_is zero bs = refl
cubics_words_is (suc k) bs =
    let e : 12 + 12 * k ≡ 12 * suc k = omega arith in
    ap₂ ◌++◌ (cubic_words_is bs) (cubics_words_is k (drop 48 bs)) ∙ sym (words_add 12 (12 * k) bs) ∙ ap (λ n. words_from n bs) e

pub claims_words_is : (k : ℕ) (bs : List ℕ) → claims_words (claims_from k bs) ≡ words_from (16 * k) bs
unfolding claims_words claims_from words_from
claims_words_is zero bs = refl
claims_words_is (suc k) bs =
    let e : 16 + 16 * k ≡ 16 * suc k = omega arith in
    ap₂ ◌++◌ (claim_words_is bs) (claims_words_is k (drop 64 bs)) ∙ sym (words_add 16 (16 * k) bs) ∙ ap (λ n. words_from n bs) e

-- the words of the entry at a place, and of those after it
pub entries_words : (k at : ℕ) (bs : List ℕ)
    → polys_words (entries_from (suc k) (drop at bs)) ≡ words_from (12 * get_or bs at 0) (drop (at + 1) bs) ++ polys_words (entries_from k (drop (at + 1 + 48 * get_or bs at 0) bs))
unfolding polys_words
entries_words k at bs =
    ap polys_words (entries_step k at bs) ∙ ap (λ l. l ++ polys_words (entries_from k (drop (at + 1 + 48 * get_or bs at 0) bs))) (cubics_words_is (get_or bs at 0) (drop (at + 1) bs))

-- k entries that use up the bytes from a place on: each has a byte for its count, and four bytes a word
pub entries_size : (k at : ℕ) (bs : List ℕ) → at ≤ length bs → entries_fit k (drop at bs) ≡ true → at + k + 4 * length (polys_words (entries_from k (drop at bs))) ≡ length bs
unfolding entries_fit entries_from polys_words
entries_size zero at bs l h = let e = eqb-true (length (drop at bs)) 0 h in omega (arith, e, length-drop at bs)
entries_size (suc k) at bs l h =
    let s = entry_fits k at bs l h in
    let c = get_or bs at 0 in
    let r = entries_size k (at + 1 + 48 * c) bs s.room s.fit in
    let W = polys_words (entries_from k (drop (at + 1 + 48 * c) bs)) in
    let w = ap length (entries_words k at bs) ∙ length-append (words_from (12 * c) (drop (at + 1) bs)) W in
    let n = words_length (12 * c) (drop (at + 1) bs) in
    omega (arith, r, w, n)

pub proof_size : (bs : List ℕ) → Reads bs → 7 + count_of_entries bs + 4 * length (proof_words (proof_of bs)) ≡ length bs
proof_size bs h =
    let e = entries_size (count_of_entries bs) (polys_at bs) bs h.room h.fit in
    let C = claims_words (claims_from (count_of_layers bs) (drop 22 bs)) in
    let c = ap length (claims_words_is (count_of_layers bs) (drop 22 bs)) ∙ words_length (16 * count_of_layers bs) (drop 22 bs) in
    let l = length-append C (polys_words (proof_of bs).polys) in
    omega (arith, e, c, l)

pub claim_canonical : (c : Claims Ext) → all_canonical (claim_words c) ≡ true → CanonClaims c
claim_canonical c h =
    let a = ext_words c.q0 ++ (ext_words c.p1 ++ ext_words c.q1) in
    let b = ext_words c.p1 ++ ext_words c.q1 in
    let h1 = canonical_right (ext_words c.p0) a h in
    let h2 = canonical_right (ext_words c.q0) b h1 in
    record {
      p0 = canonical_elem c.p0 (canonical_left (ext_words c.p0) a h);
      q0 = canonical_elem c.q0 (canonical_left (ext_words c.q0) b h1);
      p1 = canonical_elem c.p1 (canonical_left (ext_words c.p1) (ext_words c.q1) h2);
      q1 = canonical_elem c.q1 (canonical_right (ext_words c.p1) (ext_words c.q1) h2);
    }

pub cubic_canonical : (m : Cubic Ext) → all_canonical (cubic_words m) ≡ true → CanonCubic m
cubic_canonical m h =
    let a = ext_words m.at2 ++ ext_words m.at3 in
    let h1 = canonical_right (ext_words m.at1) a h in
    record {
      at1 = canonical_elem m.at1 (canonical_left (ext_words m.at1) a h);
      at2 = canonical_elem m.at2 (canonical_left (ext_words m.at2) (ext_words m.at3) h1);
      at3 = canonical_elem m.at3 (canonical_right (ext_words m.at2) (ext_words m.at3) h1);
    }

module _ (c : Claims Ext) (cs : List (Claims Ext)) (h : all_canonical (claims_words (c ∷ cs)) ≡ true) where
  pub claims_head : CanonClaims c
  unfolding claims_words
  claims_head = claim_canonical c (canonical_left (claim_words c) (claims_words cs) h)

  pub claims_tail : all_canonical (claims_words cs) ≡ true
  unfolding claims_words
  claims_tail = canonical_right (claim_words c) (claims_words cs) h

module _ (m : Cubic Ext) (ms : List (Cubic Ext)) (h : all_canonical (cubics_words (m ∷ ms)) ≡ true) where
  pub cubics_head : CanonCubic m
  unfolding cubics_words
  cubics_head = cubic_canonical m (canonical_left (cubic_words m) (cubics_words ms) h)

  pub cubics_tail : all_canonical (cubics_words ms) ≡ true
  unfolding cubics_words
  cubics_tail = canonical_right (cubic_words m) (cubics_words ms) h

module _ (ms : List (Cubic Ext)) (mss : List (List (Cubic Ext))) (h : all_canonical (polys_words (ms ∷ mss)) ≡ true) where
  pub polys_head : all_canonical (cubics_words ms) ≡ true
  unfolding polys_words
  polys_head = canonical_left (cubics_words ms) (polys_words mss) h

  pub polys_tail : all_canonical (polys_words mss) ≡ true
  unfolding polys_words
  polys_tail = canonical_right (cubics_words ms) (polys_words mss) h

module _ (π : Proof Ext) (h : all_canonical (proof_words π) ≡ true) where
  pub proof_q0 : Canon π.q0
  proof_q0 = canonical_elem π.q0 (canonical_left (ext_words π.q0) (claims_words π.claims ++ polys_words π.polys) h)

  rest : all_canonical (claims_words π.claims ++ polys_words π.polys) ≡ true
  rest = canonical_right (ext_words π.q0) (claims_words π.claims ++ polys_words π.polys) h

  pub proof_claims : all_canonical (claims_words π.claims) ≡ true
  proof_claims = canonical_left (claims_words π.claims) (polys_words π.polys) rest

  pub proof_polys : all_canonical (polys_words π.polys) ≡ true
  proof_polys = canonical_right (claims_words π.claims) (polys_words π.polys) rest
