use Rattle.field.specs.Element.{dec}
use Rattle.columns.specs.Passes.{Grown}
use Rattle.columns.proofs.eq.grow.Given as goal

abbrev pub invariant-loop-i : goal.invariant-loop-i
invariant-loop-i l = Grown l.initial.ws l.ws l.size l.i (dec l.x)
