-- The modes of an exported call as bits of one word: which are set, and what a call does not take of a word.
-- Assumes nothing.
use Rattle.std.specs.Prelude.{Bool, cond, List, [], ◌∷◌, ℕ, ◌-◌, ◌/◌, ◌%◌, eqb}
use Rattle.refusal.specs.declared.Proving.{Proving}
use Rattle.refusal.specs.declared.Verifying.{Verifying}
use Rattle.refusal.specs.declared.Report.{Report}
use Rattle.refusal.specs.Numbers.{plain}

abbrev pub LIVE : ℕ
LIVE = 1

abbrev pub ASSERT_ZERO : ℕ
ASSERT_ZERO = 2

abbrev pub DRAWN : ℕ
DRAWN = 4

abbrev pub SIZED : ℕ
SIZED = 8

abbrev pub EMPTY : ℕ
EMPTY = 16

-- the bits that the prover takes, and the verifier
abbrev pub proving_bits : List ℕ
proving_bits = LIVE ∷ ASSERT_ZERO ∷ DRAWN ∷ SIZED ∷ []

abbrev pub verifying_bits : List ℕ
verifying_bits = LIVE ∷ DRAWN ∷ EMPTY ∷ []

-- whether a bit is set: 1, 2, 4, ..
unfoldable pub has : (bit modes : ℕ) → Bool
has bit modes = eqb (modes / bit % 2) 1

unfoldable pub without : (bit modes : ℕ) → ℕ
without bit modes = cond (has bit modes) (modes - bit) modes

-- what is left of a word where these bits are taken
abbrev pub untaken : (bits : List ℕ) (modes : ℕ) → ℕ
untaken [] modes = modes
untaken (bit ∷ bits) modes = untaken bits (without bit modes)

-- the modes of proving that a word says
abbrev pub proving_of : (modes : ℕ) → Proving
proving_of modes = record { live = has LIVE modes; assert_zero = has ASSERT_ZERO modes; drawn = has DRAWN modes; sized = has SIZED modes }

-- and of verifying
abbrev pub verifying_of : (modes : ℕ) → Verifying
verifying_of modes = record { live = has LIVE modes; drawn = has DRAWN modes; empty = has EMPTY modes }

-- 28, of the exported calls alone: the bits that are not taken
abbrev pub unknown_mode : (bits : ℕ) → Report
unknown_mode bits = plain 28 bits 0 0
