use mathlib.Core.Path.{◌∙◌}
use Prim.Native.Nat.{◌-◌}
use native.Mathlib.Omega.{arith}
use Rattle.field.specs.Element.{dec}
use Rattle.prover_layer.proofs.Weights.{double_le}
use Rattle.transcript.specs.Log.{source_of, state}
use Rattle.transcript.proofs.Logs.{enough_after, same_source, then}
use Rattle.prover_rounds.specs.Layers.{used_up_to}
use Rattle.prover_rounds.proofs.Descent.{first_log, first_used}
use Rattle.prover_rounds.proofs.Room.{once_observed}
use Rattle.prover_run.proofs.Whole.{run_of, run_steps, log_one, used_one}
use Rattle.prover_run.proofs.run_rounds.Goals as goal

pub observe_ext-requires-clause-room : goal.observe_ext-requires-clause-room
observe_ext-requires-clause-room c =
    let p = c.requires in
    omega (arith, p.room, log_one, first_log c.args.n p.size.0)

pub close_round-requires-clause-room : goal.close_round-requires-clause-room
close_round-requires-clause-room c =
    let p = c.requires in
    let s = c.observe_ext.ensures.steps in
    let l = first_log c.args.n p.size.0 in
    let k = once_observed (dec c.args.q) (omega (arith, p.room, log_one, l)) s in
    (omega (arith, p.size, double_le 0 c.args.n p.size.0), omega (arith, p.size, p.room, c.clear.auto), omega (arith, p.room, log_one, l, k, s.put))

pub close_round-requires-clause-enough : goal.close_round-requires-clause-enough
close_round-requires-clause-enough c =
    let p = c.requires in
    enough_after (used_up_to c.args.n - 1) (omega arith) (omega (arith, used_one, first_used c.args.n p.size.0)) c.observe_ext.ensures.steps p.enough

pub gkr_rounds-requires-clause-room : goal.gkr_rounds-requires-clause-room
gkr_rounds-requires-clause-room c =
    let p = c.requires in
    let s = c.observe_ext.ensures.steps in
    let C = c.close_round.ensures in
    let k = once_observed (dec c.args.q) (omega (arith, p.room, log_one, first_log c.args.n p.size.0)) s in
    (omega (arith, p.room, c.clear.auto, c.close_round.auto), omega (arith, p.room, log_one, k, C.length, s.put, C.closed.steps.put))

pub gkr_rounds-requires-clause-enough : goal.gkr_rounds-requires-clause-enough
gkr_rounds-requires-clause-enough c =
    let p = c.requires in
    let a = then c.observe_ext.ensures.steps c.close_round.ensures.closed.steps in
    enough_after (used_up_to c.args.n - 1) (omega arith) (omega (arith, used_one, first_used c.args.n p.size.0)) a p.enough

pub returns-clause-length : goal.returns-clause-length
returns-clause-length c =
    let p = c.requires in
    let k = once_observed (dec c.args.q) (omega (arith, p.room, log_one, first_log c.args.n p.size.0)) c.observe_ext.ensures.steps in
    c.gkr_rounds.ensures.length ∙ c.close_round.ensures.length ∙ k

pub returns-clause-run : goal.returns-clause-run
returns-clause-run c =
    let a = c.observe_ext.ensures.steps in
    let C = c.close_round.ensures.closed in
    let h = same_source a in
    let k = same_source (then a C.steps) in
    run_of _ _ _ _ (source_of (state c.args.transcript.now)) c.args.n c.args.q a (rw h at C) (rw k at c.gkr_rounds.ensures.run)

pub returns-clause-steps : goal.returns-clause-steps
returns-clause-steps c = run_steps c.args.n c.requires.size.0 c.observe_ext.ensures.steps c.close_round.ensures.closed.steps c.gkr_rounds.ensures.steps
