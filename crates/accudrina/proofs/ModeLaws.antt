-- A bit that is set can be taken away.
-- Assumes nothing.
use mathlib.Core.Path.{◌≡◌, refl, sym, ◌∙◌}
use mathlib.Core.Bool.{Bool, true, false}
use Prim.Native.Nat.{ℕ, ◌/◌, ◌%◌, ◌≤◌}
use native.Mathlib.Nat.{div-eq_of_lt}
use native.Mathlib.Omega.{arith}
use borrow.Author.Tests.{eqb-true, leb-true, leb-false}
use lib.Dec.{leb}
use Rattle.accudrina.specs.Modes.{has}

-- it is at most the word
pub set_within : (bit modes : ℕ) {t : Bool} → t ≡ has bit modes → t ≡ true → bit ≤ modes
unfolding has
set_within bit modes test is = go (leb bit modes) refl
  where
    odd : modes / bit % 2 ≡ 1
    odd = eqb-true _ _ (sym test ∙ is)

    go : (t : Bool) → leb bit modes ≡ t → bit ≤ modes
    go true e = leb-true bit modes e
    go false e = absurd (omega (arith, odd, div-eq_of_lt (leb-false bit modes e)))
