use mathlib.Core.Path.{◌≡◌}
use mathlib.Core.List.{◌∷◌}
use lib.ListN.{replicate}
use Rattle.keccak.specs.State.{as_list}
use Rattle.keccak_bench.specs.Times.{times}
use Rattle.keccak_bench.proofs.keccak_bench_permute.Given as goal

abbrev pub invariant-loop-i : goal.invariant-loop-i
invariant-loop-i l = as_list l.s ≡ times l.i (l.a ∷ replicate 24 0)
