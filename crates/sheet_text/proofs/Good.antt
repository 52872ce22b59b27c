-- For a caller that takes what is good alone, by `ok`: the word, and the element of one word or of four, that stands at a place, if one does.
-- Assumes nothing.
use Rattle.std.proofs.Common.{◌≡◌, refl, ap, arith, ◌∙◌, ℕ, Bool, true, false, List}
use Rattle.std.specs.Prelude.{cond, ◌&&◌, ◌==◌, nat_lt, Option, Some, None, Result, Ok, Err, is_ok, option_and_then}
use Rattle.std.specs.Result.{result_ok}
use Rattle.sheet_text.specs.declared.Number.{Number}
use Rattle.sheet_text.specs.declared.Word.{Word}
use Rattle.sheet_text.specs.declared.Element.{Element}
use Rattle.sheet_text.specs.Scan.{after_byte, number_at, signed_word, is_word, found, told, word_at, next_word, single, four, four_from, element_at}
use Rattle.sheet_text.specs.Lines.{◌>>=◌}

good_found : {A : Type 0} (g : Bool) (v : A) → result_ok (found g v) ≡ cond g (Some v) None
good_found true v = refl
good_found false v = refl

good_after : (b : Bool) (n : Result Word Word) → result_ok (found (b && is_ok n) (told n)) ≡ cond b (result_ok n) None
good_after true (Ok v) = refl
good_after true (Err v) = refl
good_after false (Ok v) = refl
good_after false (Err v) = refl

good_or : (b : Bool) (e : Element) (f : Result Element Element) (o : Option Element) → result_ok f ≡ o → result_ok (cond b (found true e) f) ≡ cond b (Some e) o
good_or true e f o h = refl
good_or false e f o h = h

bad_or : (b : Bool) (e : Element) (f : Result Element Element) → result_ok f ≡ None → result_ok (cond b (found false e) f) ≡ None
bad_or true e f h = refl
bad_or false e f h = h

-- the element of a word and three after it, each got from the one before
module _ (next : Word → Option Word) where
  abbrev pub three_after : Word → Option Element
  three_after a = do
    b ← next a
    c ← next b
    d ← next c
    Some (four a b c d)

  good_three : (a b c d : Result Word Word) → result_ok b ≡ option_and_then next (result_ok a) → result_ok c ≡ option_and_then next (result_ok b) → result_ok d ≡ option_and_then next (result_ok c) →
      result_ok (found (is_ok d) (four (told a) (told b) (told c) (told d))) ≡ (result_ok a >>= three_after)
  good_three (Ok a) (Ok b) (Ok c) (Ok d) eb ec ed = rw (← eb, ← ec, ← ed)
  good_three (Ok a) (Ok b) (Ok c) (Err d) eb ec ed = rw (← eb, ← ec, ← ed)
  good_three (Ok a) (Ok b) (Err c) (Err d) eb ec ed = rw (← eb, ← ec)
  good_three (Ok a) (Err b) (Err c) (Err d) eb ec ed = rw (← eb)
  good_three (Err a) (Err b) (Err c) (Err d) eb ec ed = refl
  good_three (Ok a) (Ok b) (Err c) (Ok d) eb ec ed = grind (arith, ed)
  good_three (Ok a) (Err b) (Err c) (Ok d) eb ec ed = grind (arith, ed)
  good_three (Err a) (Err b) (Err c) (Ok d) eb ec ed = grind (arith, ed)
  good_three (Ok a) (Err b) (Ok c) d eb ec ed = grind (arith, ec)
  good_three (Err a) (Err b) (Ok c) d eb ec ed = grind (arith, ec)
  good_three (Err a) (Ok b) c d eb ec ed = grind (arith, eb)

module _ (text : List ℕ) where
  -- digits of a number below the prime, after a minus or none
  abbrev pub word_there : ℕ → Option Word
  word_there at =
      let from : ℕ = after_byte 45 text at in
      let n : Number = number_at text from in
      cond (is_word from n) (Some (record { value = signed_word (nat_lt at from) n.value; at = n.at })) None

  pub good_word : (at : ℕ) → result_ok (word_at text at) ≡ word_there at
  unfolding word_at
  good_word at = good_found _ _

  -- the word after another one and a comma
  abbrev pub next_there : Word → Option Word
  next_there w = cond (nat_lt w.at (after_byte 44 text w.at)) (word_there (after_byte 44 text w.at)) None

  -- one word, or four with commas between them
  abbrev pub element_from : Word → Option Element
  element_from a = cond (after_byte 44 text a.at == a.at) (Some (single a)) (three_after next_there a)

  next_is : (w : Result Word Word) → result_ok (next_word text w) ≡ (result_ok w >>= next_there)
  unfolding next_word
  next_is (Ok a) = good_after (nat_lt a.at (after_byte 44 text a.at)) (word_at text (after_byte 44 text a.at)) ∙ ap (λ o. cond (nat_lt a.at (after_byte 44 text a.at)) o None) (good_word (after_byte 44 text a.at))
  next_is (Err a) = refl

  four_is : (w : Result Word Word) → result_ok (four_from text w) ≡ (result_ok w >>= three_after next_there)
  four_is w = good_three next_there w _ _ _ (next_is w) (next_is _) (next_is _)

  one_is : (w : Result Word Word) → result_ok (cond (after_byte 44 text (told w).at == (told w).at) (found (is_ok w) (single (told w))) (four_from text w)) ≡ (result_ok w >>= element_from)
  one_is (Ok a) = good_or (after_byte 44 text a.at == a.at) _ _ _ (four_is (Ok a))
  one_is (Err a) = bad_or (after_byte 44 text a.at == a.at) _ _ (four_is (Err a))

  pub good_element : (at : ℕ) → result_ok (element_at text at) ≡ (word_there at >>= element_from)
  unfolding element_at
  good_element at = one_is (word_at text at) ∙ ap (λ o. o >>= element_from) (good_word at)
