-- Where an argument stands, and which word it is.
-- Assumes nothing.
use Rattle.std.proofs.Common.{◌≡◌, ℕ, zero, suc, Bool, true, false, eqb, List, [], ◌∷◌, length, slice_get, Option, Some, None, option_map, unwrap_or, Bor, refl, ap, sym, ◌∙◌}
use Rattle.std.specs.List.{slice_split, onto_first}
use Rattle.std.proofs.lemmas.Slice.Eq.{HasBytesAt, text_from_reads}
use Rattle.sheet_text.specs.Reading.{length_to}
use Rattle.command.specs.Arguments.{argument, word_of}

-- A word of the length and with the bytes of a text is that text.
pub is_text : (w text : List ℕ) → length w ≡ length text → HasBytesAt w 0 text → word_of text ≡ word_of w
is_text w text l h = ap word_of (sym (text_from_reads w text l h))

-- ---- argument k is part k of what the bytes 0 part
onto_here : (x : ℕ) (parts : List (List ℕ)) → unwrap_or (slice_get (onto_first x parts) 0) [] ≡ x ∷ unwrap_or (slice_get parts 0) []
onto_here x [] = refl
onto_here x (part ∷ parts) = refl

onto_later : (x : ℕ) (parts : List (List ℕ)) (k : ℕ) → slice_get (onto_first x parts) (suc k) ≡ slice_get parts (suc k)
onto_later x [] k = refl
onto_later x (part ∷ parts) k = refl

none_left : (k : ℕ) → argument k [] ≡ []
unfolding argument length_to
none_left zero = refl
none_left (suc k) = none_left k

abbrev parts_of : List ℕ → List (List ℕ)
parts_of = slice_split (λ b. eqb b 0)

abbrev PartsOf : List ℕ → Type 0
PartsOf args = (k : ℕ) → unwrap_or (slice_get (parts_of args) k) [] ≡ argument k args

part_on : (b : ℕ) (args : List ℕ) (t : Bool) → eqb b 0 ≡ t → PartsOf args → PartsOf (b ∷ args)
unfolding argument length_to
part_on b args true e h zero = rw e
part_on b args true e h (suc k) = rw e (h k)
part_on b args false e h zero = rw (e, onto_here b (parts_of args)) (ap (λ l. b ∷ l) (h zero))
part_on b args false e h (suc k) = rw (e, onto_later b (parts_of args) k) (h (suc k))

part : (args : List ℕ) → PartsOf args
unfolding argument length_to
part [] zero = refl
part [] (suc k) = sym (none_left k)
part (b ∷ args) k = part_on b args (eqb b 0) refl (part args) k

pub part_is : (args : List ℕ) (k : ℕ) (found : Option (Bor (List ℕ))) (empty : Bor (List ℕ)) → option_map (λ x. x.now) found ≡ slice_get (parts_of args) k → empty.now ≡ [] → (unwrap_or found empty).now ≡ argument k args
part_is args k (Some x) empty e n = ap (λ o. unwrap_or o []) e ∙ part args k
part_is args k None empty e n = n ∙ ap (λ o. unwrap_or o []) e ∙ part args k
