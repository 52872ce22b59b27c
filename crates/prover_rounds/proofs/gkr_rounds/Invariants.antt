use Prim.Native.Nat.{◌-◌, ◌^◌}
use mathlib.Core.Path.{◌≡◌}
use lib.ListN.{length}
use Rattle.transcript.specs.Log.{source_of, state}
use Rattle.prover_rounds.specs.Layers.{Midway}
use Rattle.prover_rounds.proofs.gkr_rounds.Given as goal

abbrev pub invariant-loop-round : goal.invariant-loop-round
invariant-loop-round l =
    (l.transcript.log.ghost_name ≡ l.initial.transcript.log.ghost_name) × (length l.transcript.log.now ≡ length l.initial.transcript.log.now) × (l.size ≡ 2 ^ l.round)
    × Midway l.initial.work l.work l.initial.xi l.xi (state l.initial.transcript) (state l.transcript) (source_of (state l.initial.transcript)) l.n l.round

abbrev pub decreases-loop-round : goal.decreases-loop-round
decreases-loop-round l = l.n - l.round
