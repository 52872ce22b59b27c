use borrow.Author.Rules.{rules}
use mathlib.Core.Path.{◌≡◌}
use Rattle.field.specs.ElementLaws.{zero_is}
use Rattle.prover_layer.proofs.Passing.{sum_none, sum_next}
use native.Mathlib.Omega.{arith}
use Rattle.prover_layer.proofs.passes.side_sum.Goals as goal

pub loop-y-init : goal.loop-y-init
loop-y-init c = (search rules, sum_none _ _ zero_is)

pub loop-y-preserved : goal.loop-y-preserved
loop-y-preserved c = (search rules, sum_next c.loop-y.y _ c.loop-y.acc _ c.loop-y.invariant.1 c.add_side-acc.ensures)

pub returns : goal.returns
returns c = let e : c.loop-y.y ≡ c.args.half = omega arith in
    rw e at c.loop-y.invariant.1
