use mathlib.Core.Path.{◌≡◌}
use Prim.Native.Nat.{◌≤◌}
use Rattle.keccak.specs.State.{as_list}
use Rattle.shake.specs.Sponge.{absorbed}
use Rattle.shake.specs.Drawn.{message}
use Rattle.shake.proofs.absorb.Given as goal

abbrev pub invariant-loop-k : goal.invariant-loop-k
invariant-loop-k l = (l.k ≤ l.end) × (as_list l.lanes ≡ absorbed l.k (message l.label l.words))
