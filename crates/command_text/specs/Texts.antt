-- The short form of a word, of an element and of a fraction, in bytes.
-- Assumes nothing.
use Rattle.std.specs.Prelude.{Bool, if◌then◌else◌, ◌&&◌, ◌==◌, nat_lt, List, ◌∷◌, ◌++◌, ℕ, ◌-◌}
use Rattle.std.specs.Fmt.{decimal}
use Rattle.field.specs.declared.Ext.{Ext}
use Rattle.step.specs.declared.Frac.{Frac}

-- above half the prime: minus, and the number that is missing to the prime
abbrev pub word_text : ℕ → List ℕ
word_text w = if (nat_lt 1006632960 w && nat_lt w 2013265921) then 45 ∷ decimal (2013265921 - w) else decimal w

abbrev pub is_base : Ext → Bool
is_base e = (e.c1 == 0 && e.c2 == 0) && e.c3 == 0

abbrev pub words_text : Ext → List ℕ
words_text e = word_text e.c0 ++ 44 ∷ word_text e.c1 ++ 44 ∷ word_text e.c2 ++ 44 ∷ word_text e.c3

abbrev pub element_text : Ext → List ℕ
element_text e = if is_base e then word_text e.c0 else words_text e

abbrev pub fraction_text : Frac → List ℕ
fraction_text f = element_text f.p ++ 47 ∷ element_text f.q
