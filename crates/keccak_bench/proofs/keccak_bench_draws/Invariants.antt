use mathlib.Core.Path.{◌≡◌}
use Prim.Native.Nat.{◌<◌}
use lib.ListN.{length, take}
use Rattle.field.specs.Base.{P}
use Rattle.shake.specs.Drawn.{message, Holds}
use Rattle.keccak_bench.specs.Times.{draws}
use Rattle.keccak_bench.proofs.keccak_bench_draws.Given as goal

abbrev pub invariant-loop-n : goal.invariant-loop-n
invariant-loop-n l = (l.n-end ≡ length l.words) × Holds l.s (message l.label (take l.n l.words)) × (l.x < P) × (l.x ≡ draws l.label l.words l.n)
