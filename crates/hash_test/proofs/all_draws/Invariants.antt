use mathlib.Core.Path.{◌≡◌}
use lib.ListN.{length, take}
use Rattle.shake.specs.Drawn.{message, Holds}
use Rattle.hash_test.proofs.all_draws.Given as goal

abbrev pub invariant-loop-n : goal.invariant-loop-n
invariant-loop-n l = (l.n-end ≡ length l.words) × Holds l.s (message l.label (take l.n l.words))
