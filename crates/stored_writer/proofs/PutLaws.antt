-- The bytes of the messages in the log, one after the other: pieces, and the turns of the loops over sub-rounds and layers.
-- Assumes nothing.
use mathlib.Core.Path.{◌≡◌, refl, sym, ◌∙◌, ap, ap₂}
use mathlib.Core.List.{List, [], ◌∷◌, ◌++◌}
use Prim.Native.Nat.{ℕ, zero, suc, ◌+◌, ◌*◌, ◌-◌, ◌%◌, ◌<◌, ◌≤◌}
use native.Mathlib.Nat.{mul-le-mul}
use native.Mathlib.Numerals.{add-one}
use native.Mathlib.Omega.{arith}
use lib.ListN.{length, get_or, length-append}
use Rattle.field.specs.Base.{P, of}
use Rattle.field.specs.Ext as E
use Rattle.field.specs.Element.{enc}
use Rattle.field.specs.Cells.{cell}
use Rattle.field.specs.declared.Ext.{Ext}
use Rattle.multilinear.specs.RoundSum.{Claims}
use Rattle.wire.specs.Bytes.{bytes_of}
use Rattle.wire.specs.Words.{ext_words}
use Rattle.wire.specs.Written.{Wrote}
use Rattle.wire.specs.WrittenLaws.{wrote_then}
use Rattle.wire.proofs.ByteLaws.{bytes_append}
use Rattle.stored.specs.Layout.{cubic_words, claim_words, cubics_words, claims_words, entries_bytes}
use Rattle.stored.specs.Lengths.{up_from, lengths}
use Rattle.stored.proofs.RoundTrip.{claims_size, cubics_size}
use Rattle.stored_writer.specs.Messages.{stored_cubic, stored_claims, stored_polys, stored_layers, stored_entries, words_of_log}

-- PIECES
module _ (l0 l1 l2 l3 : List ℕ) (at a b c : ℕ) (u v w : Ext) (p : Wrote l0 l1 at a (bytes_of (ext_words u))) (q : Wrote l1 l2 a b (bytes_of (ext_words v)))
    (r : Wrote l2 l3 b c (bytes_of (ext_words w))) where
  pub cubic_form : Wrote l0 l3 at c (bytes_of (cubic_words (record { at1 = u; at2 = v; at3 = w })))
  unfolding bytes_of
  cubic_form =
      let y = wrote_then l0 l1 l2 at a b (bytes_of (ext_words u)) (bytes_of (ext_words v)) p q in
      wrote_then l0 l2 l3 at b c (bytes_of (ext_words u) ++ bytes_of (ext_words v)) (bytes_of (ext_words w)) y r

  pub claims_form : (l4 : List ℕ) (d : ℕ) (x : Ext) → Wrote l3 l4 c d (bytes_of (ext_words x)) → Wrote l0 l4 at d (bytes_of (claim_words (record { p0 = u; q0 = v; p1 = w; q1 = x })))
  unfolding bytes_of
  claims_form l4 d x s = wrote_then l0 l3 l4 at c d (bytes_of (cubic_words (record { at1 = u; at2 = v; at3 = w }))) (bytes_of (ext_words x)) cubic_form s

-- where each ends
module _ {l l' : List ℕ} {at a : ℕ} where
  pub element_ends : (e : Ext) → Wrote l l' at a (bytes_of (ext_words e)) → a ≡ at + 16
  unfolding bytes_of
  element_ends e w = w.ends

  pub claims_ends : (c : Claims Ext) → Wrote l l' at a (bytes_of (claim_words c)) → a ≡ at + 64
  unfolding bytes_of
  claims_ends c w = w.ends

-- words by their remainders are the words of the cell
pub cell_form : (l l' lg : List ℕ) (at a i : ℕ)
    → Wrote l l' at a (bytes_of (ext_words (record { c0 = get_or lg (4 * i) 0 % P; c1 = get_or lg (4 * i + 1) 0 % P; c2 = get_or lg (4 * i + 2) 0 % P; c3 = get_or lg (4 * i + 3) 0 % P })))
    → Wrote l l' at a (bytes_of (ext_words (enc (cell lg i))))
unfolding cell E.ext of
cell_form l l' lg at a i w = w

-- SUB-ROUNDS
pub polys_turn : (lg : List ℕ) (i j k : ℕ) → j < k
    → bytes_of (cubics_words (stored_polys lg (i + 4 * j) (k - j))) ≡ bytes_of (cubic_words (stored_cubic lg (i + 4 * j))) ++ bytes_of (cubics_words (stored_polys lg (i + 4 * (j + 1)) (k - (j + 1))))
unfolding cubics_words
polys_turn lg i j k h =
    let e : k - j ≡ suc (k - (j + 1)) = omega arith in
    let d : i + 4 * j + 4 ≡ i + 4 * (j + 1) = omega arith in
    ap (λ n. bytes_of (cubics_words (stored_polys lg (i + 4 * j) n))) e
    ∙ bytes_append (cubic_words (stored_cubic lg (i + 4 * j))) (cubics_words (stored_polys lg (i + 4 * j + 4) (k - (j + 1))))
    ∙ ap (λ n. bytes_of (cubic_words (stored_cubic lg (i + 4 * j))) ++ bytes_of (cubics_words (stored_polys lg n (k - (j + 1))))) d

pub polys_over : (lg : List ℕ) (i k : ℕ) → k ≡ 0 → bytes_of (cubics_words (stored_polys lg i k)) ≡ []
unfolding cubics_words bytes_of
polys_over lg i k e = ap (λ n. bytes_of (cubics_words (stored_polys lg i n))) e

polys_count : (lg : List ℕ) (i k : ℕ) → length (stored_polys lg i k) ≡ k
polys_count lg i zero = refl
polys_count lg i (suc k) = ap suc (polys_count lg (i + 4) k)

pub polys_length : (lg : List ℕ) (i k : ℕ) → length (bytes_of (cubics_words (stored_polys lg i k))) ≡ 48 * k
polys_length lg i k = cubics_size (stored_polys lg i k) ∙ ap (λ n. 48 * n) (polys_count lg i k)

-- LAYERS
-- the cells of layer r are passed
past : (c r : ℕ) → c + 6 + 4 * r ≡ c + (6 + 4 * r)
past c r = omega arith

pub layers_turn : (lg : List ℕ) (c r n : ℕ) → r < n
    → bytes_of (claims_words (stored_layers lg c r (n - r))) ≡ bytes_of (claim_words (stored_claims lg (c + 1 + 4 * r))) ++ bytes_of (claims_words (stored_layers lg (c + (6 + 4 * r)) (r + 1) (n - (r + 1))))
unfolding claims_words
layers_turn lg c r n h =
    let e : n - r ≡ suc (n - (r + 1)) = omega arith in
    ap (λ k. bytes_of (claims_words (stored_layers lg c r k))) e
    ∙ bytes_append (claim_words (stored_claims lg (c + 1 + 4 * r))) (claims_words (stored_layers lg (c + 6 + 4 * r) (suc r) (n - (r + 1))))
    ∙ ap₂ (λ (d k : ℕ). bytes_of (claim_words (stored_claims lg (c + 1 + 4 * r))) ++ bytes_of (claims_words (stored_layers lg d k (n - (r + 1))))) (past c r) (sym (add-one r))

pub layers_over : (lg : List ℕ) (c r k : ℕ) → k ≡ 0 → bytes_of (claims_words (stored_layers lg c r k)) ≡ []
unfolding claims_words bytes_of
layers_over lg c r k e = ap (λ n. bytes_of (claims_words (stored_layers lg c r n))) e

pub layers_count : (lg : List ℕ) (i r h : ℕ) → length (stored_layers lg i r h) ≡ h
layers_count lg i r zero = refl
layers_count lg i r (suc h) = ap suc (layers_count lg (i + 6 + 4 * r) (suc r) h)

pub layers_length : (lg : List ℕ) (i r h : ℕ) → length (bytes_of (claims_words (stored_layers lg i r h))) ≡ 64 * h
layers_length lg i r h = claims_size (stored_layers lg i r h) ∙ ap (λ n. 64 * n) (layers_count lg i r h)

pub entries_turn : (lg : List ℕ) (c r n : ℕ) → r < n
    → entries_bytes (stored_entries lg c r (n - r)) ≡ (r ∷ bytes_of (cubics_words (stored_polys lg (c + 1) r))) ++ entries_bytes (stored_entries lg (c + (6 + 4 * r)) (r + 1) (n - (r + 1)))
unfolding entries_bytes
entries_turn lg c r n h =
    let e : n - r ≡ suc (n - (r + 1)) = omega arith in
    let R = entries_bytes (stored_entries lg (c + 6 + 4 * r) (suc r) (n - (r + 1))) in
    ap (λ k. entries_bytes (stored_entries lg c r k)) e
    ∙ ap (λ k. k ∷ (bytes_of (cubics_words (stored_polys lg (c + 1) r)) ++ R)) (polys_count lg (c + 1) r)
    ∙ ap₂ (λ (d k : ℕ). (r ∷ bytes_of (cubics_words (stored_polys lg (c + 1) r))) ++ entries_bytes (stored_entries lg d k (n - (r + 1)))) (past c r) (sym (add-one r))

pub entries_over : (lg : List ℕ) (c r k : ℕ) → k ≡ 0 → entries_bytes (stored_entries lg c r k) ≡ []
unfolding entries_bytes
entries_over lg c r k e = ap (λ n. entries_bytes (stored_entries lg c r n)) e

pub entries_takes : (lg : List ℕ) (c r n : ℕ) → r < n → 48 * r + 1 ≤ length (entries_bytes (stored_entries lg c r (n - r)))
entries_takes lg c r n h =
    let R = entries_bytes (stored_entries lg (c + (6 + 4 * r)) (r + 1) (n - (r + 1))) in
    let p = bytes_of (cubics_words (stored_polys lg (c + 1) r)) in
    omega (arith, ap length (entries_turn lg c r n h) ∙ length-append (r ∷ p) R, polys_length lg (c + 1) r)

pub entries_shape : (lg : List ℕ) (i r h : ℕ) → lengths (stored_entries lg i r h) ≡ up_from r h
unfolding lengths up_from
entries_shape lg i r zero = refl
entries_shape lg i r (suc h) = ap₂ (λ (x : ℕ) (y : List ℕ). x ∷ y) (polys_count lg (i + 1) r) (entries_shape lg (i + 6 + 4 * r) (suc r) h)

pub entries_count : (lg : List ℕ) (i r h : ℕ) → length (stored_entries lg i r h) ≡ h
entries_count lg i r zero = refl
entries_count lg i r (suc h) = ap suc (entries_count lg (i + 6 + 4 * r) (suc r) h)

-- the cell at which layer r starts
pub cell_next : (c i r : ℕ) → 4 * c + words_of_log 1 ≡ 4 * i + words_of_log r → 4 * (c + (6 + 4 * r)) + words_of_log 1 ≡ 4 * i + words_of_log (r + 1)
cell_next c i r e = omega (arith, e)

pub log_room_fits : (r n : ℕ) → r < n → words_of_log (suc r) ≤ words_of_log n
log_room_fits r n h = let l : suc r ≤ n = h in let m : suc r * suc r ≤ n * n = mul-le-mul l l in omega (arith, m)

pub cell_room : (c i r n l : ℕ) → r < n → 4 * c + words_of_log 1 ≡ 4 * i + words_of_log r → 4 * i + words_of_log n ≤ l + words_of_log 1 → 4 * (c + (6 + 4 * r)) ≤ l
cell_room c i r n l h e u = omega (arith, e, u, log_room_fits r n h)
