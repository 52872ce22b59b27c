-- Words and elements at a place of a text.
-- Assumes nothing.
use Rattle.std.specs.Prelude.{ℕ, ◌+◌, ◌-◌, ◌*◌, ◌%◌, min, Bool, true, cond, ◌&&◌, List, [], ◌∷◌, length, drop, ◌==◌, nat_lt, slice_index, is_ok, Result, Ok, Err}
use Rattle.field.specs.Base.{P}
use Rattle.sheet_text.specs.declared.Number.{Number}
use Rattle.sheet_text.specs.declared.Word.{Word}
use Rattle.sheet_text.specs.declared.Element.{Element}

-- the digit that a byte stands for: 10 or more where it stands for none
abbrev pub digit_of : ℕ → ℕ
digit_of b = (b + 208) % 256

-- a number with one digit more, as far as the prime
abbrev pub grown : ℕ → ℕ → ℕ
grown v d = min (10 * v + d) P

-- v with the digits at the front of a text that stands at a place, and the place after them
unfoldable pub number_from : ℕ → ℕ → List ℕ → Number
number_from v at [] = record { value = v; at = at }
number_from v at (b ∷ rest) = cond (nat_lt (digit_of b) 10) (number_from (grown v (digit_of b)) (at + 1) rest) (record { value = v; at = at })

unfoldable pub number_at : List ℕ → ℕ → Number
number_at text at = number_from 0 at (drop at text)

-- space, tab, carriage return
unfoldable pub is_space : ℕ → Bool
is_space b = cond (b == 32) true (cond (b == 9) true (b == 13))

-- the place after the spaces at the front of a text that stands at a place
unfoldable pub spaces_from : ℕ → List ℕ → ℕ
spaces_from at [] = at
spaces_from at (b ∷ rest) = cond (is_space b) (spaces_from (at + 1) rest) at

unfoldable pub spaces_at : List ℕ → ℕ → ℕ
spaces_at text at = spaces_from at (drop at text)

-- the place after the byte b, if b stands at this one
unfoldable pub after_byte : ℕ → List ℕ → ℕ → ℕ
after_byte b text at = cond (nat_lt at (length text)) (cond (slice_index text at == b) (at + 1) at) at

-- a number or minus a number, as a word
unfoldable pub signed_word : Bool → ℕ → ℕ
signed_word minus v = cond minus ((P - v % P) % P) (v % P)

-- there are digits, and their number is below the prime
abbrev pub is_word : ℕ → Number → Bool
is_word from n = nat_lt from n.at && nat_lt n.value P

-- a value that is read, and whether it is good
abbrev pub found : {A : Type 0} → Bool → A → Result A A
found good v = cond good (Ok v) (Err v)

-- what is read, good or not
abbrev pub told : {A : Type 0} → Result A A → A
told (Ok v) = v
told (Err v) = v

abbrev pub word_of : ℕ → ℕ → Number → Result Word Word
word_of at from n = found (is_word from n) (record { value = signed_word (nat_lt at from) n.value; at = n.at })

-- the word at a place, good if one stands there
unfoldable pub word_at : List ℕ → ℕ → Result Word Word
word_at text at = word_of at (after_byte 45 text at) (number_at text (after_byte 45 text at))

-- a word that begins at a place beyond another one
abbrev pub after : Result Word Word → ℕ → Result Word Word → Result Word Word
after w from n = found ((is_ok w && nat_lt (told w).at from) && is_ok n) (told n)

-- the word after another one and a comma, good where all of this is there
unfoldable pub next_word : List ℕ → Result Word Word → Result Word Word
next_word text w = after w (after_byte 44 text (told w).at) (word_at text (after_byte 44 text (told w).at))

abbrev pub single : Word → Element
single a = record { value = record { c0 = a.value; c1 = 0; c2 = 0; c3 = 0 }; at = a.at }

abbrev pub four : Word → Word → Word → Word → Element
four a b c d = record { value = record { c0 = a.value; c1 = b.value; c2 = c.value; c3 = d.value }; at = d.at }

-- a word with the three after it, good where all four are
abbrev pub four_from : List ℕ → Result Word Word → Result Element Element
four_from text a =
    let b : Result Word Word = next_word text a in
    let c : Result Word Word = next_word text b in
    let d : Result Word Word = next_word text c in
    found (is_ok d) (four (told a) (told b) (told c) (told d))

-- one word, or four with commas between them
unfoldable pub element_at : List ℕ → ℕ → Result Element Element
element_at text at =
    let a : Result Word Word = word_at text at in
    cond (after_byte 44 text (told a).at == (told a).at) (found (is_ok a) (single (told a))) (four_from text a)
