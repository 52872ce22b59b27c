-- A column: the words of the elements f 0, f 1, .. f (n - 1), one after the other.
-- Assumes nothing.
use Rattle.std.specs.Prelude.{List, [], ◌++◌, ℕ, zero, suc}
use Rattle.field.specs.Ext as E
use Rattle.field.specs.Element.{words}

abbrev pub flat : (ℕ → E.Ext) → ℕ → List ℕ
flat f zero = []
flat f (suc n) = flat f n ++ words (f n)
