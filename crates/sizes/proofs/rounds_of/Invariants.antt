use Rattle.sizes.proofs.Sizing.{Seeking}
use Rattle.sizes.proofs.rounds_of.Given as goal

abbrev pub invariant-loop-n : goal.invariant-loop-n
invariant-loop-n l = Seeking l.count l.n
