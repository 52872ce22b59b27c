-- The element of the base field that a word stands for, and the word of an element.
-- Assumes nothing.
use Rattle.field.specs.Base.{F, of}
use Rattle.field.specs.declared.Base.{Base}

-- any word, by its remainder
abbrev pub dec : Base → F
dec b = of b.value

abbrev pub enc : F → Base
enc x = record { value = x.val }
