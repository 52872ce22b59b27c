use mathlib.Core.Path.{◌≡◌}
use Rattle.answers.specs.Counting.{counted_up}
use Rattle.answers.proofs.counting.count_up.Given as goal

abbrev pub invariant-loop-k : goal.invariant-loop-k
invariant-loop-k l = l.challenges ≡ counted_up l.k l.initial.challenges
