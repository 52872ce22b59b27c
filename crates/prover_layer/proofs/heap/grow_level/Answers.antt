use borrow.Author.Rules.{rules}
use mathlib.Core.Path.{◌≡◌}
use Rattle.prover_tree.proofs.Memory.{fill_none}
use Rattle.prover_layer.proofs.Heaps.{level_next}
use native.Mathlib.Omega.{arith}
use Rattle.prover_layer.proofs.heap.grow_level.Goals as goal

pub loop-i-init : goal.loop-i-init
loop-i-init c = (search rules, search rules, fill_none _ _ _ (search rules))

pub loop-i-preserved : goal.loop-i-preserved
loop-i-preserved c = let l = c.loop-i in
    let a = c.args in
    (search rules, search rules, level_next _ l.work _ a.from a.to a.size l.i _ (search rules) (search rules) l.invariant.2 c.grow_cell.ensures)

pub returns : goal.returns
returns c = let e : c.loop-i.i ≡ c.args.size = omega arith in
    rw e at c.loop-i.invariant.2
