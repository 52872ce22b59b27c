-- Which words are canonical: all of a list, and the place of the first that is not.
-- Assumes nothing.
use Rattle.std.specs.Prelude.{Bool, true, false, cond, List, [], ◌∷◌, ℕ, suc, ltb, length, Option, Some, None}
use Rattle.field.specs.Base.{P}
use Rattle.field.specs.declared.Ext.{Ext}

unfoldable pub all_canonical : List ℕ → Bool
all_canonical [] = true
all_canonical (w ∷ ws) = cond (ltb w P) (all_canonical ws) false

-- counted from 0; the length if there is none
unfoldable pub first_bad : List ℕ → ℕ
first_bad [] = 0
first_bad (w ∷ ws) = cond (ltb w P) (suc (first_bad ws)) 0

-- the place of the first that is not; none where there is none
abbrev pub bad_place : List ℕ → Option ℕ
bad_place ws = cond (ltb (first_bad ws) (length ws)) (Some (first_bad ws)) None

-- the words of an element, in stored order
abbrev pub ext_words : Ext → List ℕ
ext_words e = e.c0 ∷ e.c1 ∷ e.c2 ∷ e.c3 ∷ []
