-- THE SOUNDNESS ERROR over the extension field.
-- Assumes nothing.
use Rattle.std.specs.Prelude.{ℕ, suc, ◌*◌, ◌^◌, ◌≤◌, Bool, List}
use Rattle.field.specs.Base.{P}
use Rattle.field.specs.Ext.{Ext}
use Rattle.gkr.specs.Sizes.{challenges}
use Rattle.soundness.specs.Tally.{tally}
use Rattle.soundness.specs.Errors.{errors}
use Rattle.soundness.specs.Whole.{everything}

-- THE SOUNDNESS ERROR: of all sequences of challenges, no more than errors m out of P ^ 4
abbrev pub Bounded : (m : ℕ) (p : List Ext → Bool) → Type 0
Bounded m p = let n = challenges (suc m) in tally everything n p * P ^ 4 ≤ errors m * (P ^ 4) ^ n
