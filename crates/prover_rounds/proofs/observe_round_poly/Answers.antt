use native.Mathlib.Omega.{arith}
use Rattle.prover_rounds.proofs.Room.{room_after}
use Rattle.prover_rounds.proofs.Sending.{three_observed}
use Rattle.prover_rounds.proofs.observe_round_poly.Goals as goal

pub observe_ext-requires-2-clause-room : goal.observe_ext-requires-2-clause-room
observe_ext-requires-2-clause-room c = room_after 4 (omega arith) (omega (arith, c.requires.room)) c.observe_ext.ensures.steps

pub observe_ext-requires-3-clause-room : goal.observe_ext-requires-3-clause-room
observe_ext-requires-3-clause-room c =
    let a = room_after 8 (omega arith) (omega (arith, c.requires.room)) c.observe_ext.ensures.steps in
    room_after 4 (omega arith) (omega (arith, a)) c.observe_ext-2.ensures.steps

pub returns-clause-steps : goal.returns-clause-steps
returns-clause-steps c = three_observed c.args.s c.observe_ext.ensures.steps c.observe_ext-2.ensures.steps c.observe_ext-3.ensures.steps
