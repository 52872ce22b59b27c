use mathlib.Core.Path.{◌≡◌}
use Rattle.keccak.specs.Keccak.{rounds}
use Rattle.keccak.specs.State.{as_list}
use Rattle.keccak.proofs.permute.Given as goal

abbrev pub invariant-loop-word : goal.invariant-loop-word
invariant-loop-word l = as_list l.s ≡ rounds l.word-index (as_list l.initial.s)
