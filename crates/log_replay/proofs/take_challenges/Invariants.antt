use mathlib.Core.Path.{◌≡◌}
use lib.ListN.{length, drop}
use Rattle.log_replay.specs.Replayed.{challenges_of}
use Rattle.log_replay.proofs.Taking.{poured}
use Rattle.log_replay.proofs.take_challenges.Given as goal

abbrev pub invariant-loop-w : goal.invariant-loop-w
invariant-loop-w l = (length l.challenges ≡ length l.initial.challenges) × (poured (drop l.w-index l.log) l.challenges l.k ≡ challenges_of l.log)
