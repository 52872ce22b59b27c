use Prim.Native.Nat.{◌*◌}
use mathlib.Core.Path.{◌≡◌}
use Rattle.prover_tree.proofs.Memory.{fill_none, fill_next}
use borrow.Author.Rules.{rules}
use native.Mathlib.Omega.{arith}
use Rattle.prover_tree.proofs.put_leaves.Goals as goal

pub loop-i-init : goal.loop-i-init
loop-i-init c = (search rules, search rules, fill_none _ _ _ (search rules))

pub loop-i-preserved : goal.loop-i-preserved
loop-i-preserved c = let l = c.loop-i in
    (search rules, search rules, fill_next _ l.work _ _ l.i _ _ l.invariant.2 c.store.ensures c.load.ensures.value)

pub returns : goal.returns
returns c = let e : c.loop-i.i ≡ 2 * c.args.size = omega arith in
    rw e at c.loop-i.invariant.2
