-- The base field: the numbers below the prime 2013265921, with sums, products and opposites by remainder.
-- Assumes nothing.
use Prim.Native.Nat.{ℕ, ◌+◌, ◌*◌, ◌-◌, ◌%◌, compare}
use Rattle.std.specs.Prelude.{Bool, eqb}
use Rattle.std.proofs.Common.{mod-lt, arith}
use Rattle.field.specs.Below.{Lt, lt_compare}

-- the prime, 15·2^27 + 1
abbrev pub P : ℕ
P = 2013265921

-- an element is a number below the prime
pub record F : Type 0 where
  pub val : ℕ
  pub fits : Lt (compare val P)

pub mod_fits : (n : ℕ) → Lt (compare (n % P) P)
mod_fits n = lt_compare (n % P) P (mod-lt n (omega arith))

-- the element that a number stands for: its remainder
unfoldable pub of : ℕ → F
of n = record { val = n % P; fits = mod_fits n }

unfoldable pub add : F → F → F
add a b = of (a.val + b.val)

unfoldable pub mul : F → F → F
mul a b = of (a.val * b.val)

unfoldable pub neg : F → F
neg a = of (P - a.val)

unfoldable pub nil : F
nil = of 0

unfoldable pub one : F
one = of 1

unfoldable pub two : F
two = add one one

-- the inverses of 2 and of 6
unfoldable pub half : F
half = of 1006632961

unfoldable pub sixth : F
sixth = of 1677721601

-- the test of equality
abbrev pub same : F → F → Bool
same a b = eqb a.val b.val
