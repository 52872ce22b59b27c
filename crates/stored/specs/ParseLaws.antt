-- Laws of reading: what bytes that parse are, the counts, and the lists one step on, for a reader that walks by byte places.
-- Assumes nothing.
use Rattle.std.specs.Prelude.{◌≡◌, refl, Ok, Bool, true, false, cond, ◌||◌, List, ◌∷◌, ℕ, zero, suc, ◌+◌, ◌*◌, ◌≤◌, eqb, leb, length, get_or, drop}
use Rattle.std.proofs.Common.{sym, ◌∙◌, ap, ap₂, arith, eqb-true, eq-eqb, leb-true, le-leb, length-drop, drop-drop, get_or-drop}
use Rattle.field.specs.declared.Ext.{Ext}
use Rattle.gkr.specs.Run.{Cubic, Proof}
use Rattle.wire.specs.Bytes.{word}
use Rattle.stored.specs.declared.Outline.{Outline}
use Rattle.stored.specs.Shapes.{shape_of, outline_of}
use Rattle.stored.specs.Layout.{version_of}
use Rattle.stored.specs.Parse.{claims_of, cubic_of, claims_from, cubics_from, entry_size, entries_from, entries_fit, known, sized, count_of_layers, count_of_entries, polys_at, fits, proof_of, Parsed, bad_version, bad_length, parsed, parse}

never : true ≡ false → ⊥
never e = let z : ◌≡◌ {A = ℕ} 0 1 = cc in omega arith

pub both_left : (a b : Bool) → cond a b false ≡ true → a ≡ true
both_left true b h = refl
both_left false b h = h

pub both_right : (a b : Bool) → cond a b false ≡ true → b ≡ true
both_right true b h = h
both_right false b h = absurd (never (sym h))

-- THE COUNTS
pub claims_count : (k : ℕ) (bs : List ℕ) → length (claims_from k bs) ≡ k
unfolding claims_from
claims_count zero bs = refl
claims_count (suc k) bs = ap suc (claims_count k (drop 64 bs))

pub cubics_count : (k : ℕ) (bs : List ℕ) → length (cubics_from k bs) ≡ k
unfolding cubics_from
cubics_count zero bs = refl
cubics_count (suc k) bs = ap suc (cubics_count k (drop 48 bs))

pub entries_count : (k : ℕ) (bs : List ℕ) → length (entries_from k bs) ≡ k
unfolding entries_from
entries_count zero bs = refl
entries_count (suc k) bs = ap suc (entries_count k (drop (entry_size bs) bs))

-- ONE STEP ON
pub claims_step : (k at : ℕ) (bs : List ℕ) → claims_from (suc k) (drop at bs) ≡ claims_of (drop at bs) ∷ claims_from k (drop (at + 64) bs)
unfolding claims_from
claims_step k at bs = ap (λ l. claims_of (drop at bs) ∷ claims_from k l) (drop-drop 64 at bs)

pub cubics_step : (k at : ℕ) (bs : List ℕ) → cubics_from (suc k) (drop at bs) ≡ cubic_of (drop at bs) ∷ cubics_from k (drop (at + 48) bs)
unfolding cubics_from
cubics_step k at bs = ap (λ l. cubic_of (drop at bs) ∷ cubics_from k l) (drop-drop 48 at bs)

pub front_byte : (at : ℕ) (bs : List ℕ) → get_or (drop at bs) 0 0 ≡ get_or bs at 0
front_byte at bs = let z : at + 0 ≡ at = omega arith in get_or-drop at bs 0 0 ∙ ap (λ k. get_or bs k 0) z

pub entry_past : (at c : ℕ) (bs : List ℕ) → get_or (drop at bs) 0 0 ≡ c → drop (entry_size (drop at bs)) (drop at bs) ≡ drop (at + 1 + 48 * c) bs
entry_past at c bs e =
    let f : at + (1 + 48 * c) ≡ at + 1 + 48 * c = omega arith in
    ap (λ n. drop (1 + 48 * n) (drop at bs)) e ∙ drop-drop (1 + 48 * c) at bs ∙ ap (λ n. drop n bs) f

-- the entry at a place: the byte there is its count c of sub-rounds, and the next starts 1 + 48 * c bytes on
pub entries_step : (k at : ℕ) (bs : List ℕ) → entries_from (suc k) (drop at bs) ≡ cubics_from (get_or bs at 0) (drop (at + 1) bs) ∷ entries_from k (drop (at + 1 + 48 * get_or bs at 0) bs)
unfolding entries_from
entries_step k at bs =
    let e = front_byte at bs in
    ap₂ (λ (x : List (Cubic Ext)) (y : List (List (Cubic Ext))). x ∷ y) (ap₂ cubics_from e (drop-drop 1 at bs)) (ap (entries_from k) (entry_past at (get_or bs at 0) bs e))

pub record Entry (k at : ℕ) (bs : List ℕ) : Type 0 where
  pub room : at + 1 + 48 * get_or bs at 0 ≤ length bs
  pub fit : entries_fit k (drop (at + 1 + 48 * get_or bs at 0) bs) ≡ true

pub entry_fits : (k at : ℕ) (bs : List ℕ) → at ≤ length bs → entries_fit (suc k) (drop at bs) ≡ true → Entry k at bs
unfolding entries_fit
entry_fits k at bs l h =
    let e = front_byte at bs in
    let b : entry_size (drop at bs) ≤ length (drop at bs) = leb-true (entry_size (drop at bs)) (length (drop at bs)) (both_left (leb (entry_size (drop at bs)) (length (drop at bs))) (entries_fit k (drop (entry_size (drop at bs)) (drop at bs))) h) in
    let r = both_right (leb (entry_size (drop at bs)) (length (drop at bs))) (entries_fit k (drop (entry_size (drop at bs)) (drop at bs))) h in
    record { room = omega (arith, length-drop at bs, b, e); fit = ap (entries_fit k) (sym (entry_past at (get_or bs at 0) bs e)) ∙ r }

-- THE VERSION
-- a first byte that is known is the version byte of what it tells
version_by : (v : ℕ) (a b : Bool) → eqb v 1 ≡ a → eqb v 2 ≡ b → (a || b) ≡ true → v ≡ version_of b
version_by v true true p q h = absurd (omega (arith, eqb-true v 1 p, eqb-true v 2 q))
version_by v true false p q h = eqb-true v 1 p
version_by v false true p q h = eqb-true v 2 q
version_by v false false p q h = absurd (never (sym h))

pub known_version : (bs : List ℕ) → known bs ≡ true → get_or bs 0 0 ≡ version_of (sized bs)
known_version bs h = version_by (get_or bs 0 0) (eqb (get_or bs 0 0) 1) (sized bs) refl refl h

-- BYTES THAT PARSE
pub record Reads (bs : List ℕ) : Type 0 where
  pub version : known bs ≡ true
  pub stored : 5 + word (drop 1 bs) ≡ length bs
  pub room : polys_at bs ≤ length bs
  pub fit : entries_fit (count_of_entries bs) (drop (polys_at bs) bs) ≡ true

pub fits_reads : (bs : List ℕ) → known bs ≡ true → fits bs ≡ true → Reads bs
unfolding fits
fits_reads bs v h =
    let F = entries_fit (count_of_entries bs) (drop (polys_at bs) bs) in
    let r = cond (leb (polys_at bs) (length bs)) F false in
    let t = both_right (eqb (5 + word (drop 1 bs)) (length bs)) r h in
    record {
      version = v;
      stored = eqb-true (5 + word (drop 1 bs)) (length bs) (both_left (eqb (5 + word (drop 1 bs)) (length bs)) r h);
      room = leb-true (polys_at bs) (length bs) (both_left (leb (polys_at bs) (length bs)) F t);
      fit = both_right (leb (polys_at bs) (length bs)) F t;
    }

pub reads_fits : (bs : List ℕ) → Reads bs → fits bs ≡ true
unfolding fits
reads_fits bs h = rw (eq-eqb (5 + word (drop 1 bs)) (length bs) h.stored, le-leb (polys_at bs) (length bs) h.room, h.fit)

pub reads_parse : (bs : List ℕ) → Reads bs → parse bs ≡ parsed (sized bs) (proof_of bs)
unfolding parse
reads_parse bs h = rw (h.version, reads_fits bs h)

pub record Answered (bs : List ℕ) (s : Bool) (π : Proof Ext) : Type 0 where
  pub reads : Reads bs
  pub sized : sized bs ≡ s
  pub proof : proof_of bs ≡ π

parsed_by : (bs : List ℕ) (s : Bool) (π : Proof Ext) (v f : Bool) → known bs ≡ v → fits bs ≡ f → cond v (cond f (parsed (sized bs) (proof_of bs)) bad_length) bad_version ≡ parsed s π → Answered bs s π
parsed_by bs s π true true a b e = record { reads = fits_reads bs a b; sized = cc; proof = cc }
parsed_by bs s π true false a b e = absurd (let z : ◌≡◌ {A = ℕ} 0 1 = cc in omega arith)
parsed_by bs s π false f a b e = absurd (let z : ◌≡◌ {A = ℕ} 0 1 = cc in omega arith)

pub parse_reads : (bs : List ℕ) (s : Bool) (π : Proof Ext) → parse bs ≡ parsed s π → Answered bs s π
unfolding parse
parse_reads bs s π e = parsed_by bs s π (known bs) (fits bs) refl refl e

-- what a good shape says of the bytes
pub record Shaped (bs : List ℕ) (o : Outline) : Type 0 where
  pub layers : o.layers ≡ count_of_layers bs
  pub entries : o.entries ≡ count_of_entries bs
  pub polys : o.polys ≡ polys_at bs
  pub reads : Reads bs

shaped_by : (bs : List ℕ) (o : Outline) (p : Parsed) → parse bs ≡ p → Ok o ≡ shape_of p → Shaped bs o
shaped_by bs o bad_version e g = absurd (let z : ◌≡◌ {A = ℕ} 0 1 = cc in omega arith)
shaped_by bs o bad_length e g = absurd (let z : ◌≡◌ {A = ℕ} 0 1 = cc in omega arith)
shaped_by bs o (parsed s π) e g =
    let a = parse_reads bs s π e in
    let c = claims_count (count_of_layers bs) (drop 22 bs) in
    let d = entries_count (count_of_entries bs) (drop (polys_at bs) bs) in
    let f : outline_of π ≡ outline_of (proof_of bs) = ap outline_of (sym a.proof) in
    let i : o ≡ outline_of π = cc in
    record {
      layers = ap (λ x. x.layers) (i ∙ f) ∙ c;
      entries = ap (λ x. x.entries) (i ∙ f) ∙ d;
      polys = ap (λ x. x.polys) (i ∙ f) ∙ ap (λ n. 23 + 64 * n) c;
      reads = a.reads;
    }

pub good_shape : (bs : List ℕ) (o : Outline) → Ok o ≡ shape_of (parse bs) → Shaped bs o
good_shape bs o g = shaped_by bs o (parse bs) refl g
