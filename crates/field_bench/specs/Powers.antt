-- What the timed loops compute: elements times a power of another.
-- Assumes nothing.
use Rattle.std.specs.Prelude.{ℕ}
use Rattle.ring.specs.Ring.{pow}
use Rattle.field.specs.Ext as E
use Rattle.field.specs.ExtRing.{ExtRing}

-- (b + a·x + b·x² + a·x³)ⁿ
abbrev pub power : ℕ → ℕ → ℕ → E.Ext
power a b n = pow ExtRing (E.ext b a b a) n

abbrev pub chain : ℕ → ℕ → ℕ → E.Ext
chain a b n = E.mul (E.ext a b a b) (power a b n)

abbrev pub chains : ℕ → ℕ → ℕ → E.Ext
chains a b n =
    E.add (E.add (E.mul (E.ext a b a b) (power a b n)) (E.mul (E.ext b a a b) (power a b n)))
    (E.add (E.mul (E.ext a a b b) (power a b n)) (E.mul (E.ext b b a a) (power a b n)))
