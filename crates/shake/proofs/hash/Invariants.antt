use mathlib.Core.Path.{◌≡◌}
use lib.ListN.{length}
use Rattle.shake.proofs.SqueezeLaws.{Squeezing}
use Rattle.shake.proofs.hash.Given as goal

abbrev pub invariant-loop-i : goal.invariant-loop-i
invariant-loop-i l = (l.i-end ≡ length l.initial.out) × Squeezing l.initial.s l.s l.b l.initial.out l.out l.i
