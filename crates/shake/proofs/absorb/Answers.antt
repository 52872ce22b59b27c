use mathlib.Core.Path.{◌≡◌}
use Prim.Native.Nat.{◌/◌}
use Rattle.shake.proofs.SpongeLaws.{absorb_more, holds_end, holds_all}
use native.Mathlib.Omega.{arith}
use Rattle.shake.proofs.absorb.Goals as goal

pub loop-k-init : goal.loop-k-init
loop-k-init c = (omega (arith, holds_end _ _ c.requires.1), c.requires.1.state)

pub loop-k-preserved : goal.loop-k-preserved
loop-k-preserved c = (omega arith, absorb_more _ _ _ (omega arith) c.loop-k.invariant.1 c.absorb_block-lanes.ensures)

pub returns-clause-holds : goal.returns-clause-holds
returns-clause-holds c =
    let e : c.loop-k.k ≡ c.size-end.result / 168 = omega arith in
    holds_all _ _ _ (omega arith) (rw e at c.loop-k.invariant.1)
