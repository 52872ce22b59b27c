use native.Mathlib.Omega.{arith}
use Rattle.prover_rounds.proofs.Room.{room_after}
use Rattle.prover_rounds.proofs.Descent.{node_observed}
use Rattle.prover_rounds.proofs.observe_fraction.Goals as goal

pub observe_ext-requires-2-clause-room : goal.observe_ext-requires-2-clause-room
observe_ext-requires-2-clause-room c = room_after 4 (omega arith) (omega (arith, c.requires.room)) c.observe_ext.ensures.steps

pub returns-clause-steps : goal.returns-clause-steps
returns-clause-steps c = node_observed c.args.f c.observe_ext.ensures.steps c.observe_ext-2.ensures.steps
