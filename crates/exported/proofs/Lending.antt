-- Rooms that the questions answer are the needed ones, for rounds that are taken; and numbers other than 4 and 5.
-- Assumes nothing.
use mathlib.Core.Path.{◌≡◌, refl, sym, ◌∙◌, subst}
use mathlib.Core.Bool.{Bool, true, false, cond}
use Prim.Native.Nat.{ℕ, ◌+◌, ◌≤◌}
use native.Mathlib.Omega.{arith}
use borrow.Author.Tests.{le-ltb, eqb-false}
use lib.Dec.{eqb, ltb}
use Rattle.refusal.specs.Limits.{max_rounds}
use Rattle.sizes.specs.Sizes.{needed_words, log_room}
use Rattle.accudrina.specs.Modes.{ASSERT_ZERO, SIZED, has}
use Rattle.accudrina.specs.Rooms.{taken, words_of_log, challenge_words}
use Rattle.accudrina.proofs.RoomLaws.{within}
use Rattle.exported.specs.Asked.{NotShort}

-- a test that fails does not pass
pub never : {X : Type 0} {t : Bool} → t ≡ false → t ≡ true → X
never {t = t} e h = let z : ◌≡◌ {A = Bool} true false = sym h ∙ e in let y : ◌≡◌ {A = ℕ} 0 1 = cc in absurd (omega arith)

pub fits : (n room have : ℕ) → n ≤ max_rounds → taken n room ≤ have → room ≤ have
fits n room have few h = subst (λ (k : ℕ). k ≤ have) (within n room few) h

pub lent : (n room have : ℕ) → n ≤ max_rounds → taken n room ≤ have → ltb have room ≡ false
lent n room have few h = le-ltb have room (fits n room have few h)

-- the challenges, where they are not drawn
pub challenges_lent : (drawn : Bool) (n have : ℕ) → n ≤ max_rounds → (drawn ≡ false → challenge_words n ≤ have) → ltb have (needed_words drawn n) ≡ false
challenges_lent true n have few h = le-ltb have 0 (omega arith)
challenges_lent false n have few h = lent n (needed_words false n) have few (h refl)

-- the log, where zero is asserted
pub log_lent : (sized : Bool) (n have : ℕ) → n ≤ max_rounds → words_of_log n (ASSERT_ZERO + cond sized SIZED 0) ≤ have → log_room true sized n ≤ have
unfolding has
log_lent true n have few l = fits n (log_room true true n) have few l
log_lent false n have few l = fits n (log_room true false n) have few l

pub other : (k : ℕ) → eqb k 4 ≡ false → eqb k 5 ≡ false → NotShort k
other k h l = record { challenges = eqb-false k 4 h; room = eqb-false k 5 l }
