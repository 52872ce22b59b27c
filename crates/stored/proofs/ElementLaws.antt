-- A proof of elements is got back from its words, and canonical words are got back from their elements; where a root is over zero.
-- Assumes nothing.
use Rattle.std.specs.Prelude.{◌≡◌, refl, true, false, ◌&&◌, List, [], ◌∷◌, ◌++◌, map, ℕ, ◌<◌, ◌≤◌, leb, length}
use Rattle.std.proofs.Common.{◌∙◌, ap, ap₂, le-leb}
use Rattle.std.proofs.Math.Bool.{and-eq-true_iff}
use Rattle.std.proofs.lemmas.Bool.{lt-leb}
use Rattle.field.specs.Ext as E
use Rattle.field.specs.Element.{dec, enc}
use Rattle.field.specs.ElementLaws.{dec_enc, enc_dec, canon_enc}
use Rattle.field.specs.ExtRing.{same_true}
use Rattle.field.specs.declared.Ext.{Ext}
use Rattle.multilinear.specs.RoundSum.{Claims}
use Rattle.gkr.specs.Run.{Cubic, Proof}
use Rattle.wire.specs.Words.{all_canonical, ext_words}
use Rattle.wire.specs.WordLaws.{elem_canonical, canonical_append}
use Rattle.stored.specs.Layout.{claim_words, cubic_words, claims_words, cubics_words, polys_words, proof_words}
use Rattle.stored.proofs.ReadWords.{claims_head, claims_tail, cubics_head, cubics_tail, polys_head, polys_tail, proof_q0, proof_claims, proof_polys}
use Rattle.stored.specs.Parse.{proof_of}
use Rattle.stored.specs.Elements.{map_claims, map_cubic, encoded, decoded, over_zero}

pub claims_dec_enc : (cs : List (Claims E.Ext)) → map (map_claims dec) (map (map_claims enc) cs) ≡ cs
claims_dec_enc [] = refl
claims_dec_enc (c ∷ cs) =
    let a = dec_enc c.p0 in
    let b = dec_enc c.q0 in
    let d = dec_enc c.p1 in
    let e = dec_enc c.q1 in
    ap₂ (λ (x : Claims E.Ext) (y : List (Claims E.Ext)). x ∷ y) (λ i. record { p0 = a i; q0 = b i; p1 = d i; q1 = e i }) (claims_dec_enc cs)

pub cubics_dec_enc : (ms : List (Cubic E.Ext)) → map (map_cubic dec) (map (map_cubic enc) ms) ≡ ms
cubics_dec_enc [] = refl
cubics_dec_enc (m ∷ ms) =
    let a = dec_enc m.at1 in
    let b = dec_enc m.at2 in
    let d = dec_enc m.at3 in
    ap₂ (λ (x : Cubic E.Ext) (y : List (Cubic E.Ext)). x ∷ y) (λ i. record { at1 = a i; at2 = b i; at3 = d i }) (cubics_dec_enc ms)

pub polys_dec_enc : (mss : List (List (Cubic E.Ext))) → map (map (map_cubic dec)) (map (map (map_cubic enc)) mss) ≡ mss
polys_dec_enc [] = refl
polys_dec_enc (ms ∷ mss) = ap₂ (λ (x : List (Cubic E.Ext)) (y : List (List (Cubic E.Ext))). x ∷ y) (cubics_dec_enc ms) (polys_dec_enc mss)

pub decoded_encoded : (π : Proof E.Ext) → decoded (encoded π) ≡ π
decoded_encoded π =
    let a = dec_enc π.q0 in
    let b = claims_dec_enc π.claims in
    let c = polys_dec_enc π.polys in
    λ i. record { q0 = a i; claims = b i; polys = c i }

pub claims_enc_dec : (cs : List (Claims Ext)) → all_canonical (claims_words cs) ≡ true → map (map_claims enc) (map (map_claims dec) cs) ≡ cs
claims_enc_dec [] h = refl
claims_enc_dec (c ∷ cs) h =
    let k = claims_head c cs h in
    let a = enc_dec k.p0 in
    let b = enc_dec k.q0 in
    let d = enc_dec k.p1 in
    let e = enc_dec k.q1 in
    ap₂ (λ (x : Claims Ext) (y : List (Claims Ext)). x ∷ y) (λ i. record { p0 = a i; q0 = b i; p1 = d i; q1 = e i }) (claims_enc_dec cs (claims_tail c cs h))

pub cubics_enc_dec : (ms : List (Cubic Ext)) → all_canonical (cubics_words ms) ≡ true → map (map_cubic enc) (map (map_cubic dec) ms) ≡ ms
cubics_enc_dec [] h = refl
cubics_enc_dec (m ∷ ms) h =
    let k = cubics_head m ms h in
    let a = enc_dec k.at1 in
    let b = enc_dec k.at2 in
    let d = enc_dec k.at3 in
    ap₂ (λ (x : Cubic Ext) (y : List (Cubic Ext)). x ∷ y) (λ i. record { at1 = a i; at2 = b i; at3 = d i }) (cubics_enc_dec ms (cubics_tail m ms h))

pub polys_enc_dec : (mss : List (List (Cubic Ext))) → all_canonical (polys_words mss) ≡ true → map (map (map_cubic enc)) (map (map (map_cubic dec)) mss) ≡ mss
polys_enc_dec [] h = refl
polys_enc_dec (ms ∷ mss) h =
    ap₂ (λ (x : List (Cubic Ext)) (y : List (List (Cubic Ext))). x ∷ y) (cubics_enc_dec ms (polys_head ms mss h)) (polys_enc_dec mss (polys_tail ms mss h))

pub encoded_decoded : (π : Proof Ext) → all_canonical (proof_words π) ≡ true → encoded (decoded π) ≡ π
encoded_decoded π h =
    let a = enc_dec (proof_q0 π h) in
    let b = claims_enc_dec π.claims (proof_claims π h) in
    let c = polys_enc_dec π.polys (proof_polys π h) in
    λ i. record { q0 = a i; claims = b i; polys = c i }

-- an encoded proof's words are canonical
both : (vs ws : List ℕ) → all_canonical vs ≡ true → all_canonical ws ≡ true → all_canonical (vs ++ ws) ≡ true
both vs ws a b = canonical_append vs ws ∙ rw (a, b)

elem_good : (x : E.Ext) → all_canonical (ext_words (enc x)) ≡ true
elem_good x = elem_canonical (enc x) (canon_enc x)

claim_good : (c : Claims E.Ext) → all_canonical (claim_words (map_claims enc c)) ≡ true
claim_good c =
    let x = map_claims enc c in
    both (ext_words x.p0) (ext_words x.q0 ++ (ext_words x.p1 ++ ext_words x.q1)) (elem_good c.p0)
    (both (ext_words x.q0) (ext_words x.p1 ++ ext_words x.q1) (elem_good c.q0) (both (ext_words x.p1) (ext_words x.q1) (elem_good c.p1) (elem_good c.q1)))

cubic_good : (m : Cubic E.Ext) → all_canonical (cubic_words (map_cubic enc m)) ≡ true
cubic_good m =
    let x = map_cubic enc m in
    both (ext_words x.at1) (ext_words x.at2 ++ ext_words x.at3) (elem_good m.at1) (both (ext_words x.at2) (ext_words x.at3) (elem_good m.at2) (elem_good m.at3))

claims_good : (cs : List (Claims E.Ext)) → all_canonical (claims_words (map (map_claims enc) cs)) ≡ true
unfolding claims_words all_canonical
claims_good [] = refl
claims_good (c ∷ cs) = both (claim_words (map_claims enc c)) (claims_words (map (map_claims enc) cs)) (claim_good c) (claims_good cs)

cubics_good : (ms : List (Cubic E.Ext)) → all_canonical (cubics_words (map (map_cubic enc) ms)) ≡ true
unfolding cubics_words all_canonical
cubics_good [] = refl
cubics_good (m ∷ ms) = both (cubic_words (map_cubic enc m)) (cubics_words (map (map_cubic enc) ms)) (cubic_good m) (cubics_good ms)

polys_good : (mss : List (List (Cubic E.Ext))) → all_canonical (polys_words (map (map (map_cubic enc)) mss)) ≡ true
unfolding polys_words all_canonical
polys_good [] = refl
polys_good (ms ∷ mss) = both (cubics_words (map (map_cubic enc) ms)) (polys_words (map (map (map_cubic enc)) mss)) (cubics_good ms) (polys_good mss)

pub encoded_canonical : (π : Proof E.Ext) → all_canonical (proof_words (encoded π)) ≡ true
encoded_canonical π =
    let x = encoded π in
    both (ext_words x.q0) (claims_words x.claims ++ polys_words x.polys) (elem_good π.q0) (both (claims_words x.claims) (polys_words x.polys) (claims_good π.claims) (polys_good π.polys))

-- A ROOT OVER ZERO

pub no_root : (bs : List ℕ) → length bs < 21 → over_zero bs ≡ false
unfolding over_zero
no_root bs h = ap (λ b. b && E.same (decoded (proof_of bs)).q0 E.nil) (lt-leb 21 (length bs) h)

pub root_there : (bs : List ℕ) → 21 ≤ length bs → over_zero bs ≡ E.same (decoded (proof_of bs)).q0 E.nil
unfolding over_zero
root_there bs h = ap (λ b. b && E.same (decoded (proof_of bs)).q0 E.nil) (le-leb 21 (length bs) h)

pub root_nil : (bs : List ℕ) → over_zero bs ≡ true → (decoded (proof_of bs)).q0 ≡ E.nil
unfolding over_zero
root_nil bs h = same_true _ E.nil ((and-eq-true_iff (leb 21 (length bs)) (E.same (decoded (proof_of bs)).q0 E.nil)).0 h).1
