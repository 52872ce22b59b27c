use Rattle.field.specs.Element.{dec}
use Rattle.columns.specs.Passes.{Merged}
use Rattle.columns.proofs.eval.merge.Given as goal

abbrev pub invariant-loop-i : goal.invariant-loop-i
invariant-loop-i l = Merged l.initial.t l.t l.half l.i (dec l.z)
