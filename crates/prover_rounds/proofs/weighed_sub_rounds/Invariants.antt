use Prim.Native.Nat.{◌*◌, ◌≤◌, ◌-◌, ◌/◌, ◌^◌}
use mathlib.Core.Path.{◌≡◌}
use Rattle.transcript.specs.Log.{source_of, state}
use Rattle.prover_rounds.specs.SubRounds.{Going}
use Rattle.prover_rounds.proofs.weighed_sub_rounds.Given as goal

abbrev pub invariant-loop-j : goal.invariant-loop-j
invariant-loop-j l =
    (l.transcript.log.ghost_name ≡ l.initial.transcript.log.ghost_name) × (l.half ≡ 2 ^ (l.round - l.j) / 2) × (2 * l.half ≤ l.size)
    × Going l.initial.work l.work l.initial.xi l.xi (state l.initial.transcript) (state l.transcript) (source_of (state l.initial.transcript))
    l.eq l.pq l.j (l.round - l.j) l.round l.half l.size l.initial.t l.t

abbrev pub decreases-loop-j : goal.decreases-loop-j
decreases-loop-j l = l.round - l.j
