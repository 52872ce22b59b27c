use Rattle.std.specs.Prelude.{◌≡◌, ◌-◌}
use Rattle.transcript.specs.Log.{source_of, state}
use Rattle.verifier_rounds.specs.Runs.{Going}
use Rattle.verifier_rounds.proofs.verify_rounds.Given as goal

abbrev pub invariant-loop-round : goal.invariant-loop-round
invariant-loop-round l =
    (l.transcript.log.ghost_name ≡ l.initial.transcript.log.ghost_name)
    × Going l.proof l.initial.point l.point (state l.initial.transcript) (state l.transcript) (source_of (state l.initial.transcript)) l.claims l.c l.polys l.p l.rounds l.round l.initial.s l.s

abbrev pub decreases-loop-round : goal.decreases-loop-round
decreases-loop-round l = l.rounds - l.round
