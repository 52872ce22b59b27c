-- Stored form and proof are one thing: what is read from bytes has those bytes as its layout, and each proof is read back from its layout.
-- Assumes nothing.
use Rattle.std.specs.Prelude.{◌≡◌, Bool, true, false, cond, ◌||◌, eqb, leb, take}
use Rattle.std.proofs.Math.Path.{refl, sym, ap, ap₂}
use Rattle.std.proofs.Common.{◌∙◌, add-one, take-append-drop, drop_of_length-le, drop-cons, drop-drop, get_or-drop, drop_at}
use mathlib.Core.List.{List, [], ◌∷◌, ◌++◌}
use Prim.Native.Nat.{ℕ, zero, suc, ◌+◌, ◌*◌, ◌<◌, ◌≤◌}
use native.Mathlib.Omega.{arith}
use borrow.Author.Tests.{eqb-true, le-leb}
use Rattle.std.proofs.Math.ListN.{length, get_or, drop, length-append, length-drop}
use Rattle.std.proofs.Math.Seq.{get_or_at}
use Rattle.field.specs.declared.Ext.{Ext}
use Rattle.multilinear.specs.RoundSum.{Claims}
use Rattle.gkr.specs.Run.{Cubic, Proof}
use Rattle.wire.specs.Bytes.{be4, word, words_from, elem, bytes_of, Bytes}
use Rattle.wire.specs.Words.{ext_words}
use Rattle.wire.proofs.ByteLaws.{bytes_drop, bytes_back, word_back, elem_words}
use Rattle.stored.specs.Layout.{claim_words, cubic_words, claims_words, cubics_words, entries_bytes, body, version_of, layout}
use Rattle.stored.specs.Parse.{claims_of, cubic_of, claims_from, cubics_from, entry_size, entries_from, entries_fit, known, sized, count_of_layers, count_of_entries, polys_at, proof_of, parsed, parse}
use Rattle.stored.specs.ParseLaws.{cubics_count, claims_count, entries_count, entries_step, entry_fits, known_version, Reads, reads_parse, parse_reads}
use Rattle.stored.proofs.ReadWords.{cubics_words_is, claims_words_is}

-- BYTES, READ, AND WRITTEN AGAIN
next : (bs : List ℕ) (i : ℕ) → i < length bs → get_or bs i 0 ∷ drop (i + 1) bs ≡ drop i bs
next bs i h = sym (drop-cons bs i 0 h ∙ ap (λ k. get_or bs i 0 ∷ drop k bs) (sym (add-one i)))

seam : (at n : ℕ) (bs : List ℕ) → take n (drop at bs) ++ drop (at + n) bs ≡ drop at bs
seam at n bs = ap (λ l. take n (drop at bs) ++ l) (sym (drop-drop n at bs)) ∙ take-append-drop n (drop at bs)

module _ (bs : List ℕ) (b : Bytes bs) where
  words_there : (k at : ℕ) → at + 4 * k ≤ length bs → bytes_of (words_from k (drop at bs)) ++ drop (at + 4 * k) bs ≡ drop at bs
  words_there k at h =
      ap (λ l. l ++ drop (at + 4 * k) bs) (bytes_back k (drop at bs) (bytes_drop at bs b) (omega (arith, length-drop at bs))) ∙ seam at (4 * k) bs

  entries_there : (k at : ℕ) → at ≤ length bs → entries_fit k (drop at bs) ≡ true → entries_bytes (entries_from k (drop at bs)) ≡ drop at bs
  unfolding entries_fit entries_from entries_bytes
  entries_there zero at l h =
      let e = eqb-true (length (drop at bs)) 0 h in
      let m : length bs ≤ at = omega (arith, e, length-drop at bs) in
      sym (drop_of_length-le bs m)
  entries_there (suc k) at l h =
      let s = entry_fits k at bs l h in
      let c = get_or bs at 0 in
      let ms = cubics_from c (drop (at + 1) bs) in
      let mss = entries_from k (drop (at + 1 + 48 * c) bs) in
      let r = entries_there k (at + 1 + 48 * c) s.room s.fit in
      let z : at + 1 + 4 * (12 * c) ≡ at + 1 + 48 * c = omega arith in
      let w = words_there (12 * c) (at + 1) (omega (arith, s.room)) in
      let m : bytes_of (cubics_words ms) ++ entries_bytes mss ≡ drop (at + 1) bs =
      ap₂ (λ (x y : List ℕ). bytes_of x ++ y) (cubics_words_is c (drop (at + 1) bs)) (r ∙ ap (λ n. drop n bs) (sym z)) ∙ w in
      ap entries_bytes (entries_step k at bs)
      ∙ ap₂ (λ (x : ℕ) (y : List ℕ). x ∷ y) (cubics_count c (drop (at + 1) bs)) m
      ∙ next bs at (omega (arith, s.room))

  module _ (r : Reads bs) where
    body_there : body (proof_of bs) ≡ drop 5 bs
    body_there =
        let L = count_of_layers bs in
        let E = count_of_entries bs in
        let e1 = entries_there E (polys_at bs) r.room r.fit in
        let z1 : 22 + 64 * L + 1 ≡ polys_at bs = omega arith in
        let e2 : length (entries_from E (drop (polys_at bs) bs)) ∷ entries_bytes (entries_from E (drop (polys_at bs) bs)) ≡ drop (22 + 64 * L) bs =
        ap₂ (λ (x : ℕ) (y : List ℕ). x ∷ y) (entries_count E (drop (polys_at bs) bs)) (e1 ∙ ap (λ n. drop n bs) (sym z1)) ∙ next bs (22 + 64 * L) (omega (arith, r.room)) in
        let z2 : 22 + 4 * (16 * L) ≡ 22 + 64 * L = omega arith in
        let e3 = words_there (16 * L) 22 (omega (arith, r.room)) in
        let e4 : length (claims_from L (drop 22 bs)) ∷ (bytes_of (claims_words (claims_from L (drop 22 bs))) ++ drop (22 + 64 * L) bs) ≡ drop 21 bs =
        ap₂ (λ (x : ℕ) (y : List ℕ). x ∷ y) (claims_count L (drop 22 bs)) (ap₂ (λ (x y : List ℕ). bytes_of x ++ y) (claims_words_is L (drop 22 bs)) (ap (λ n. drop n bs) (sym z2)) ∙ e3)
        ∙ next bs 21 (omega (arith, r.room)) in
        ap (λ l. bytes_of (ext_words (elem (drop 5 bs))) ++ (length (claims_from L (drop 22 bs)) ∷ (bytes_of (claims_words (claims_from L (drop 22 bs))) ++ l))) e2
        ∙ ap₂ (λ (x y : List ℕ). bytes_of x ++ y) (elem_words (drop 5 bs)) e4
        ∙ words_there 4 5 (omega (arith, r.room))

    all_there : layout (sized bs) (proof_of bs) ≡ bs
    unfolding layout bytes_of words_from
    all_there =
        let n : length (body (proof_of bs)) ≡ word (drop 1 bs) = ap length body_there ∙ omega (arith, length-drop 5 bs, r.stored) in
        let w : be4 (word (drop 1 bs)) ++ drop 5 bs ≡ drop 1 bs = words_there 1 1 (omega (arith, r.room)) in
        let v = version_of (sized bs) in
        ap₂ (λ (x : ℕ) (y : List ℕ). v ∷ (be4 x ++ y)) n body_there
        ∙ ap (λ l. v ∷ l) w
        ∙ ap (λ k. k ∷ drop 1 bs) (sym (known_version bs r.version))
        ∙ next bs 0 (omega (arith, r.room))

pub read_write : (bs : List ℕ) (s : Bool) (π : Proof Ext) → Bytes bs → parse bs ≡ parsed s π → layout s π ≡ bs
read_write bs s π b e = let a = parse_reads bs s π e in ap₂ layout (sym a.sized) (sym a.proof) ∙ all_there bs b a.reads

-- A PROOF, WRITTEN, AND READ AGAIN
elem_back : (e : Ext) (rest : List ℕ) → elem (bytes_of (ext_words e) ++ rest) ≡ e
unfolding bytes_of
elem_back e rest =
    let r3 = be4 e.c3 ++ rest in
    let r2 = be4 e.c2 ++ r3 in
    let p0 = word_back e.c0 (be4 e.c1 ++ r2) in
    let p1 = word_back e.c1 r2 in
    let p2 = word_back e.c2 r3 in
    let p3 = word_back e.c3 rest in
    λ i. record { c0 = p0 i; c1 = p1 i; c2 = p2 i; c3 = p3 i }

claim_back : (c : Claims Ext) (rest : List ℕ) → claims_of (bytes_of (claim_words c) ++ rest) ≡ c
unfolding bytes_of
claim_back c rest =
    let r3 = bytes_of (ext_words c.q1) ++ rest in
    let r2 = bytes_of (ext_words c.p1) ++ r3 in
    let p0 = elem_back c.p0 (bytes_of (ext_words c.q0) ++ r2) in
    let p1 = elem_back c.q0 r2 in
    let p2 = elem_back c.p1 r3 in
    let p3 = elem_back c.q1 rest in
    λ i. record { p0 = p0 i; q0 = p1 i; p1 = p2 i; q1 = p3 i }

cubic_back : (m : Cubic Ext) (rest : List ℕ) → cubic_of (bytes_of (cubic_words m) ++ rest) ≡ m
unfolding bytes_of
cubic_back m rest =
    let r2 = bytes_of (ext_words m.at3) ++ rest in
    let p0 = elem_back m.at1 (bytes_of (ext_words m.at2) ++ r2) in
    let p1 = elem_back m.at2 r2 in
    let p2 = elem_back m.at3 rest in
    λ i. record { at1 = p0 i; at2 = p1 i; at3 = p2 i }

claims_back : (cs : List (Claims Ext)) (rest : List ℕ) → claims_from (length cs) (bytes_of (claims_words cs) ++ rest) ≡ cs
unfolding bytes_of claims_words claims_from
claims_back [] rest = refl
claims_back (c ∷ cs) rest = ap₂ (λ (x : Claims Ext) (y : List (Claims Ext)). x ∷ y) (claim_back c (bytes_of (claims_words cs) ++ rest)) (claims_back cs rest)

cubics_back : (ms : List (Cubic Ext)) (rest : List ℕ) → cubics_from (length ms) (bytes_of (cubics_words ms) ++ rest) ≡ ms
unfolding bytes_of cubics_words cubics_from
cubics_back [] rest = refl
cubics_back (m ∷ ms) rest = ap₂ (λ (x : Cubic Ext) (y : List (Cubic Ext)). x ∷ y) (cubic_back m (bytes_of (cubics_words ms) ++ rest)) (cubics_back ms rest)

pub claims_size : (cs : List (Claims Ext)) → length (bytes_of (claims_words cs)) ≡ 64 * length cs
unfolding bytes_of claims_words
claims_size [] = refl
claims_size (c ∷ cs) = omega (arith, claims_size cs)

pub cubics_size : (ms : List (Cubic Ext)) → length (bytes_of (cubics_words ms)) ≡ 48 * length ms
unfolding bytes_of cubics_words
cubics_size [] = refl
cubics_size (m ∷ ms) = omega (arith, cubics_size ms)

-- past the first entry
entry_back : (n : ℕ) (xs rest : List ℕ) → length xs ≡ 48 * n → drop (entry_size (n ∷ (xs ++ rest))) (n ∷ (xs ++ rest)) ≡ rest
entry_back n xs rest e = sym (drop-drop (48 * n) 1 (n ∷ (xs ++ rest))) ∙ drop_at xs rest (48 * n) e

entries_back : (mss : List (List (Cubic Ext))) → entries_from (length mss) (entries_bytes mss) ≡ mss
unfolding entries_from entries_bytes
entries_back [] = refl
entries_back (ms ∷ mss) =
    ap₂ (λ (x : List (Cubic Ext)) (y : List (List (Cubic Ext))). x ∷ y) (cubics_back ms (entries_bytes mss))
    (ap (entries_from (length mss)) (entry_back (length ms) (bytes_of (cubics_words ms)) (entries_bytes mss) (cubics_size ms)) ∙ entries_back mss)

entries_fit_back : (mss : List (List (Cubic Ext))) → entries_fit (length mss) (entries_bytes mss) ≡ true
unfolding entries_fit entries_bytes
entries_fit_back [] = refl
entries_fit_back (ms ∷ mss) =
    let xs = bytes_of (cubics_words ms) in
    let l = length ms ∷ (xs ++ entries_bytes mss) in
    let t : leb (entry_size l) (length l) ≡ true = le-leb (entry_size l) (length l) (omega (arith, length-append xs (entries_bytes mss), cubics_size ms)) in
    ap (λ x. cond x (entries_fit (length mss) (drop (entry_size l) l)) false) t
    ∙ ap (entries_fit (length mss)) (entry_back (length ms) xs (entries_bytes mss) (cubics_size ms))
    ∙ entries_fit_back mss

-- the version byte of either kind is known, and tells its kind
version_known : (s : Bool) → (eqb (version_of s) 1 || eqb (version_of s) 2) ≡ true
version_known true = refl
version_known false = refl

version_tells : (s : Bool) → eqb (version_of s) 2 ≡ s
version_tells true = refl
version_tells false = refl

module _ (s : Bool) (π : Proof Ext) where
  -- the bytes from the claims on, and their parts
  tail : List ℕ
  tail = bytes_of (claims_words π.claims) ++ (length π.polys ∷ entries_bytes π.polys)

  at_claims : drop 22 (layout s π) ≡ tail
  unfolding layout bytes_of tail
  at_claims = refl

  layers_back : count_of_layers (layout s π) ≡ length π.claims
  unfolding layout bytes_of
  layers_back = refl

  count_back : count_of_entries (layout s π) ≡ length π.polys
  unfolding tail
  count_back =
      ap (λ n. get_or (layout s π) (22 + 64 * n) 0) layers_back
      ∙ sym (get_or-drop 22 (layout s π) (64 * length π.claims) 0)
      ∙ ap (λ l. get_or l (64 * length π.claims) 0) at_claims
      ∙ get_or_at (bytes_of (claims_words π.claims)) (length π.polys) (entries_bytes π.polys) 0 (64 * length π.claims) (claims_size π.claims)

  polys_back : drop (polys_at (layout s π)) (layout s π) ≡ entries_bytes π.polys
  unfolding tail
  polys_back =
      let n = 64 * length π.claims in
      let z : 22 + (n + 1) ≡ 23 + n = omega arith in
      ap (λ k. drop (23 + 64 * k) (layout s π)) layers_back
      ∙ ap (λ k. drop k (layout s π)) (sym z)
      ∙ sym (drop-drop (n + 1) 22 (layout s π))
      ∙ ap (drop (n + 1)) at_claims
      ∙ sym (drop-drop 1 n tail)
      ∙ ap (drop 1) (drop_at (bytes_of (claims_words π.claims)) (length π.polys ∷ entries_bytes π.polys) n (claims_size π.claims))

  version_back : known (layout s π) ≡ true
  unfolding layout
  version_back = version_known s

  sized_back : sized (layout s π) ≡ s
  unfolding layout
  sized_back = version_tells s

  length_back : 5 + word (drop 1 (layout s π)) ≡ length (layout s π)
  unfolding layout
  length_back =
      let z : 5 + length (body π) ≡ suc (suc (suc (suc (suc (length (body π)))))) = omega arith in
      ap (λ n. 5 + n) (word_back (length (body π)) (body π)) ∙ z

  room_back : polys_at (layout s π) ≤ length (layout s π)
  unfolding tail
  room_back =
      let l = length-drop 22 (layout s π) in
      let m = ap length at_claims ∙ length-append (bytes_of (claims_words π.claims)) (length π.polys ∷ entries_bytes π.polys) in
      omega (arith, layers_back, l, m, claims_size π.claims)

  reads_back : Reads (layout s π)
  reads_back =
      record {
        version = version_back;
        stored = length_back;
        room = room_back;
        fit = ap₂ entries_fit count_back polys_back ∙ entries_fit_back π.polys;
      }

  q0_back : elem (drop 5 (layout s π)) ≡ π.q0
  unfolding layout tail
  q0_back = elem_back π.q0 (length π.claims ∷ tail)

  proof_back : proof_of (layout s π) ≡ π
  unfolding tail
  proof_back =
      let c = ap₂ claims_from layers_back at_claims ∙ claims_back π.claims (length π.polys ∷ entries_bytes π.polys) in
      let p = ap₂ entries_from count_back polys_back ∙ entries_back π.polys in
      let q = q0_back in
      λ i. record { q0 = q i; claims = c i; polys = p i }

  pub write_read : parse (layout s π) ≡ parsed s π
  write_read = reads_parse (layout s π) reads_back ∙ ap₂ parsed sized_back proof_back

-- each proof has one stored form of each version, and each stored form is of one version and one proof
pub one_form : (bs bs' : List ℕ) (s : Bool) (π : Proof Ext) → Bytes bs → Bytes bs' → parse bs ≡ parsed s π → parse bs' ≡ parsed s π → bs ≡ bs'
one_form bs bs' s π b b' e e' = sym (read_write bs s π b e) ∙ read_write bs' s π b' e'

pub one_proof : (s s' : Bool) (π π' : Proof Ext) → layout s π ≡ layout s' π' → (s ≡ s') × (π ≡ π')
one_proof s s' π π' e = let h : parsed s π ≡ parsed s' π' = sym (write_read s π) ∙ ap parse e ∙ write_read s' π' in (cc, cc)
