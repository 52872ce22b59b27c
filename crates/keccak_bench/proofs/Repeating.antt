-- The loops over permutations and over draws.
-- Assumes nothing.
use mathlib.Core.Path.{◌≡◌, ap, ap₂, ◌∙◌}
use mathlib.Core.List.{List}
use Prim.Native.Nat.{ℕ, ◌+◌, ◌%◌}
use native.Mathlib.Numerals.{add-one}
use lib.ListN.{take}
use Rattle.field.specs.Base.{P}
use Rattle.keccak.specs.Keccak.{keccak}
use Rattle.shake.specs.Drawn.{drawn}
use Rattle.keccak_bench.specs.Times.{times, draws}

pub once_more : {s t : List ℕ} (a : List ℕ) (k : ℕ) → s ≡ times k a → t ≡ keccak s → t ≡ times (k + 1) a
unfolding times
once_more a k e f = rw (add-one k) (f ∙ ap keccak e)

pub one_drawn : {x y : ℕ} (l ws : List ℕ) (n : ℕ) → x ≡ draws l ws n → y ≡ drawn l (take n ws) → (x + y) % P ≡ draws l ws (n + 1)
unfolding draws
one_drawn l ws n e f = rw (add-one n) (ap₂ (λ (a b : ℕ). (a + b) % P) e f)
