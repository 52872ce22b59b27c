-- Numbers as bytes, the highest first: two bytes, four bytes, and words one after the other.
-- Assumes nothing.
use Rattle.std.specs.Prelude.{List, [], ◌∷◌, ◌++◌, ℕ, zero, suc, ◌+◌, ◌*◌, ◌/◌, ◌%◌, ◌<◌, get_or, drop}
use Rattle.field.specs.declared.Ext.{Ext}

abbrev pub be2 : ℕ → List ℕ
be2 n = n / 256 ∷ n % 256 ∷ []

abbrev pub be4 : ℕ → List ℕ
be4 w = w / 16777216 ∷ w / 65536 % 256 ∷ w / 256 % 256 ∷ w % 256 ∷ []

unfoldable pub bytes_of : List ℕ → List ℕ
bytes_of [] = []
bytes_of (w ∷ ws) = be4 w ++ bytes_of ws

-- the number of the first two bytes, and of the first four
abbrev pub half : List ℕ → ℕ
half bs = get_or bs 0 0 * 256 + get_or bs 1 0

unfoldable pub word : List ℕ → ℕ
word bs = get_or bs 0 0 * 16777216 + get_or bs 1 0 * 65536 + get_or bs 2 0 * 256 + get_or bs 3 0

-- the first k words
unfoldable pub words_from : ℕ → List ℕ → List ℕ
words_from zero bs = []
words_from (suc k) bs = word bs ∷ words_from k (drop 4 bs)

-- the element of the first 16 bytes, its words not yet checked
abbrev pub elem : List ℕ → Ext
elem bs = record { c0 = word bs; c1 = word (drop 4 bs); c2 = word (drop 8 bs); c3 = word (drop 12 bs) }

-- each is a byte; each is a word
pub record Bytes (bs : List ℕ) : Type 0 where
  pub below : (k : ℕ) → get_or bs k 0 < 256

pub record Small (ws : List ℕ) : Type 0 where
  pub below : (k : ℕ) → get_or ws k 0 < 4294967296
