-- What an evaluation answers: the first refusal that fits, or n and the values of both columns at the point.
-- Assumes nothing.
use Rattle.std.specs.Prelude.{cond, not, List, [], ◌∷◌, ℕ, ◌%◌, eqb, ltb, length, Result, Ok, Err}
use Rattle.field.specs.Ext as E
use Rattle.field.specs.ExtRing.{ExtRing}
use Rattle.field.specs.Element.{enc}
use Rattle.field.specs.Cells.{cells}
use Rattle.gkr.specs.Run.{Frac}
use Rattle.gkr.specs.Sizes.{point_words}
use Rattle.gkr.specs.Tree as Tree
use Rattle.refusal.specs.Limits.{max_rows}
use Rattle.refusal.specs.declared.Refusal.{Refusal}
use Rattle.refusal.specs.declared.Refusal.TheVariants.{RaggedRows, TooManyRows, NotPowerOfTwo, BadLength, BadWord}
use Rattle.refusal.specs.declared.Words.TheVariants.{Rows, Point}
use Rattle.refusal.specs.Tests.{Test, Tested, passed, refused, test, first_of}
use Rattle.wire.specs.Words.{all_canonical, first_bad}
use Rattle.prover_tree.specs.Nodes.{node}
use Rattle.sizes.specs.Sizes.{row_count, rounds_of, is_size}
use Rattle.evaluation.specs.declared.Values.{Values}

-- done, with n and two values
abbrev pub told : ℕ → Frac E.Ext → Result Values Refusal
told n v = Ok (record { rounds = n; numer = enc v.p; denom = enc v.q })

-- row words, eight a row, and the words of the point, four a coordinate: 1, 2, 3, 13, 6
abbrev pub tests : (rows point : List ℕ) → List Test
tests rows point =
    test (not (eqb (length rows % 8) 0)) RaggedRows
    ∷ test (ltb max_rows (row_count rows)) TooManyRows
    ∷ test (not (is_size (row_count rows))) NotPowerOfTwo
    ∷ test (not (eqb (length point) (point_words (rounds_of (row_count rows))))) BadLength
    ∷ test (not (all_canonical rows)) (BadWord (first_bad rows) Rows)
    ∷ test (not (all_canonical point)) (BadWord (first_bad point) Point) ∷ []

-- no rows have the values of the empty sum, 0 and 1
abbrev pub valued : (rows point : List ℕ) → Tested → Result Values Refusal
valued rows point (refused e) = Err e
valued rows point passed = let n = rounds_of (row_count rows) in
    cond (eqb (row_count rows) 0) (told 0 (record { p = E.nil; q = E.one })) (told n (Tree.value ExtRing (node rows) (cells point 0 n)))

unfoldable pub evaluated : (rows point : List ℕ) → Result Values Refusal
evaluated rows point = valued rows point (first_of (tests rows point))
