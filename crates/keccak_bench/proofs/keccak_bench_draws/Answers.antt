use mathlib.Core.Path.{refl}
use native.Mathlib.Omega.{arith}
use Rattle.shake.proofs.SpongeLaws.{holds_next}
use Rattle.keccak_bench.specs.Times.{draws}
use Rattle.keccak_bench.proofs.Repeating.{one_drawn}
use Rattle.keccak_bench.proofs.keccak_bench_draws.Goals as goal

pub loop-n-init : goal.loop-n-init
unfolding draws
loop-n-init c = (refl, c.start-s.ensures _, omega arith, refl)

pub loop-n-preserved : goal.loop-n-preserved
loop-n-preserved c = (
  refl,
  holds_next _ c.args.words.now c.loop-n.n c.absorb-s.ensures.holds (omega arith),
  omega arith,
  one_drawn _ _ _ c.loop-n.invariant.3 c.draw.ensures.0,
)
