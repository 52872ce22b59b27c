use mathlib.Core.Path.{◌≡◌}
use Rattle.prover_layer.proofs.Entries.{weighs_none, weighs_next}
use borrow.Author.Rules.{rules}
use native.Mathlib.Omega.{arith}
use Rattle.prover_layer.proofs.weigh.Goals as goal

pub loop-y-init : goal.loop-y-init
loop-y-init c = (search rules, search rules, weighs_none _ _ _ (search rules))

pub loop-y-preserved : goal.loop-y-preserved
loop-y-preserved c = let l = c.loop-y in
    (search rules, search rules, weighs_next _ l.work _ _ l.y _ l.invariant.2 c.weigh_node.ensures)

pub returns : goal.returns
returns c = let e : c.loop-y.y ≡ c.args.size = omega arith in
    rw e at c.loop-y.invariant.2
