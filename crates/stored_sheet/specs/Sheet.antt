-- The stored form of a sheet: version 1, the row count in two bytes, and the words of the rows.
-- Assumes nothing.
use Rattle.std.specs.Prelude.{List, ◌∷◌, ◌++◌, ℕ, ◌*◌, ◌/◌, length, drop}
use Rattle.wire.specs.Bytes.{be2, half, words_from, bytes_of}

-- from the words of the rows, eight a row
unfoldable pub sheet : List ℕ → List ℕ
sheet ws = 1 ∷ (be2 (length ws / 8) ++ bytes_of ws)

-- the row count that bytes state, and the words of so many rows
abbrev pub row_count : List ℕ → ℕ
row_count bs = half (drop 1 bs)

abbrev pub row_words : List ℕ → List ℕ
row_words bs = words_from (8 * row_count bs) (drop 3 bs)
