use mathlib.Core.Path.{refl}
use Rattle.keccak_bench.specs.Times.{times}
use Rattle.keccak_bench.proofs.Repeating.{once_more}
use Rattle.keccak_bench.proofs.keccak_bench_permute.Goals as goal

pub loop-i-init : goal.loop-i-init
unfolding times
loop-i-init c = refl

pub loop-i-preserved : goal.loop-i-preserved
loop-i-preserved c = once_more _ _ c.loop-i.invariant c.permute-s.ensures
