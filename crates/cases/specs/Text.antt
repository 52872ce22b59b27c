-- Numbers in decimal text, one byte of any other kind after each.
-- Assumes nothing.
use Rattle.std.specs.Prelude.{◌≡◌, ℕ, zero, suc, ◌+◌, ◌*◌, ◌%◌, ◌≤◌, min, cond, List, [], ◌∷◌, ◌++◌, length, take, drop, replicate, nat_lt, slice_set}
use Rattle.field.specs.declared.Ext.{Ext}

-- what is read, and the place where the text goes on
pub record Read (A : Type 0) : Type 0 where
  pub value : A
  pub at : ℕ

-- the digit that a byte stands for: 10 or more where it stands for none
abbrev pub digit_of : ℕ → ℕ
digit_of b = (b + 208) % 256

-- a number with one digit more, as far as it fits
abbrev pub grown : ℕ → ℕ → ℕ
grown v d = min (10 * v + d) 18446744073709551615

-- v with the digits at the front of a text that stands at a place, and the place after the byte that ends them
unfoldable pub number_from : ℕ → ℕ → List ℕ → Read ℕ
number_from v at [] = record { value = v; at = at }
number_from v at (b ∷ rest) =
    cond (nat_lt (digit_of b) 10) (number_from (grown v (digit_of b)) (at + 1) rest) (record { value = v; at = at + 1 })

-- the number at a place of a text
unfoldable pub number_at : List ℕ → ℕ → Read ℕ
number_at text at = number_from 0 at (drop at text)

-- a number as a word and as a byte
abbrev pub word_of : ℕ → ℕ
word_of v = v % 4294967296

abbrev pub byte_of : ℕ → ℕ
byte_of v = v % 256

-- a word and an element at a place of a text
abbrev pub word_at : List ℕ → ℕ → Read ℕ
word_at text at = record { value = word_of (number_at text at).value; at = (number_at text at).at }

abbrev pub element_of : Read ℕ → Read ℕ → Read ℕ → Read ℕ → Read Ext
element_of a b c d = record { value = record { c0 = a.value; c1 = b.value; c2 = c.value; c3 = d.value }; at = d.at }

-- its first, second, third and fourth word
unfoldable pub element_at : List ℕ → ℕ → Read Ext
element_at text at =
    let a : Read ℕ = word_at text at in
    let b : Read ℕ = word_at text a.at in
    let c : Read ℕ = word_at text b.at in
    element_of a b c (word_at text c.at)

-- words or bytes, and the place where the text goes on
pub record Placed (A : Type 0) : Type 0 where
  pub words : List A
  pub at : ℕ

-- how many were read, and the place where the text goes on
pub record Listed : Type 0 where
  pub count : ℕ
  pub at : ℕ

-- the next k numbers of a text, each through f, put into words from place i on
unfoldable pub listed : {A : Type 0} → (ℕ → A) → List ℕ → ℕ → List A → ℕ → ℕ → Placed A
listed f text at ws i zero = record { words = ws; at = at }
listed f text at ws i (suc k) = listed f text (number_at text at).at (slice_set ws i (f (number_at text at).value)) (i + 1) k

-- the front of words of this length
abbrev pub IsFront : {A : Type 0} → ℕ → List A → Type 0
IsFront n ws = (n ≤ length ws) × (n ≡ length (take n ws))

-- A list at a place of a text, its length first, is put into the front of words as far as they go: ws become ws', and r says how many and where the text goes on.
pub record ListAt {A : Type 0} (f : ℕ → A) (text : List ℕ) (at : ℕ) (ws ws' : List A) (r : Listed) : Type 0 where
  pub fits : IsFront r.count ws'
  pub count : r.count ≡ min (number_at text at).value (length ws)
  pub placed : record { words = ws'; at = r.at } ≡ listed f text (number_at text at).at ws 0 r.count

-- The front of words, as far as they go, is filled with v.
pub record Filled {A : Type 0} (v : A) (n : ℕ) (ws ws' : List A) (r : ℕ) : Type 0 where
  pub fits : IsFront r ws'
  pub count : r ≡ min n (length ws)
  pub filled : ws' ≡ replicate r v ++ drop r ws
