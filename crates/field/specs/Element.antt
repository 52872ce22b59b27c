-- The element of the extension that four words stand for, and the words of an element and of a point.
-- Assumes nothing.
use Rattle.std.specs.Prelude.{◌≡◌, Bool, ◌&&◌, List, [], ◌∷◌, ◌++◌, ℕ, ◌<◌, eqb, ltb}
use Rattle.field.specs.Base.{P}
use Rattle.field.specs.Ext as E
use Rattle.field.specs.declared.Ext.{Ext}

-- any words, by their remainders
abbrev pub dec : Ext → E.Ext
dec e = E.ext e.c0 e.c1 e.c2 e.c3

-- the four words of an element
abbrev pub enc : E.Ext → Ext
enc x = record { c0 = x.c0.val; c1 = x.c1.val; c2 = x.c2.val; c3 = x.c3.val }

-- the same as a list, in the order in which they are stored
abbrev pub words : E.Ext → List ℕ
words x = x.c0.val ∷ x.c1.val ∷ x.c2.val ∷ x.c3.val ∷ []

-- the words of a point, in order
unfoldable pub words_of_point : List E.Ext → List ℕ
words_of_point [] = []
words_of_point (x ∷ xs) = words x ++ words_of_point xs

-- the four words are canonical
pub record Canon (e : Ext) : Type 0 where
  pub c0 : e.c0 < P
  pub c1 : e.c1 < P
  pub c2 : e.c2 < P
  pub c3 : e.c3 < P

-- r is THE representation of x
pub record Is (r : Ext) (x : E.Ext) : Type 0 where
  pub canon : Canon r
  pub value : dec r ≡ x

-- the tests on words
unfoldable pub canon_words : Ext → Bool
canon_words e = ltb e.c0 P && (ltb e.c1 P && (ltb e.c2 P && ltb e.c3 P))

unfoldable pub same_words : Ext → Ext → Bool
same_words a b = eqb a.c0 b.c0 && (eqb a.c1 b.c1 && (eqb a.c2 b.c2 && eqb a.c3 b.c3))
