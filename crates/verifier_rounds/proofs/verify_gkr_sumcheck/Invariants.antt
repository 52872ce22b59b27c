use Rattle.std.specs.Prelude.{◌≡◌, ◌+◌, ◌*◌, ◌-◌}
use Rattle.transcript.specs.Log.{source_of, state}
use Rattle.verifier_rounds.specs.Runs.{Summing}
use Rattle.verifier_rounds.proofs.verify_gkr_sumcheck.Given as goal

abbrev pub invariant-loop-j : goal.invariant-loop-j
invariant-loop-j l =
    (l.transcript.log.ghost_name ≡ l.initial.transcript.log.ghost_name)
    × Summing l.proof l.initial.point l.point (state l.initial.transcript) (state l.transcript) (source_of (state l.initial.transcript)) l.from (l.from + 48 * l.j) l.round l.j l.initial.s l.s

abbrev pub decreases-loop-j : goal.decreases-loop-j
decreases-loop-j l = l.round - l.j
