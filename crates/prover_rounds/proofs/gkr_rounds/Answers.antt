use mathlib.Core.Path.{refl, ◌∙◌}
use Prim.Native.Nat.{◌*◌, ◌≤◌, ◌^◌}
use native.Mathlib.Omega.{arith}
use Rattle.transcript.specs.Log.{source_of, state}
use Rattle.transcript.proofs.Logs.{same_source}
use Rattle.prover_layer.proofs.Weights.{double_le, pow_next}
use Rattle.prover_rounds.proofs.Descent.{midway_none, enough_midway, midway_next, midway_steps, midway_end, log_room_fits, first_log}
use Rattle.prover_rounds.proofs.gkr_rounds.Goals as goal

pub loop-round-init : goal.loop-round-init
loop-round-init c =
    let p = c.requires in
    (refl, refl, refl, midway_none _ _ _ _ _ p.layer.0 p.clean.0 p.clean.1)

pub gkr_round-requires-clause-layer : goal.gkr_round-requires-clause-layer
gkr_round-requires-clause-layer c =
    let p = c.requires in
    let l = c.loop-round in
    let d : 2 * l.size ≤ 2 ^ c.args.n = rw l.invariant.2 (double_le l.round c.args.n c.loop-round-test.true) in
    (omega (arith, p.layer, d), omega (arith, p.layer, d, l.auto))

pub gkr_round-requires-clause-room : goal.gkr_round-requires-clause-room
gkr_round-requires-clause-room c =
    let p = c.requires in
    let l = c.loop-round in
    let m = l.invariant.3 in
    let u = log_room_fits l.round c.args.n c.loop-round-test.true in
    (omega (arith, p.room, l.auto, c.loop-round-test.true), omega (arith, p.room, l.invariant.1, m.steps.put, u, first_log l.round m.from))

pub gkr_round-requires-clause-enough : goal.gkr_round-requires-clause-enough
gkr_round-requires-clause-enough c = enough_midway _ _ _ _ _ c.args.n _ c.loop-round.invariant.3 c.loop-round-test.true c.requires.enough

pub overflow_mul-size : goal.overflow_mul-size
overflow_mul-size c =
    let l = c.loop-round in
    let d : 2 * l.size ≤ 2 ^ c.args.n = rw l.invariant.2 (double_le l.round c.args.n c.loop-round-test.true) in
    omega (arith, c.requires.layer, d, c.ranges)

pub loop-round-preserved : goal.loop-round-preserved
loop-round-preserved c =
    let l = c.loop-round in
    let m = l.invariant.3 in
    let h = pow_next l.size l.round l.invariant.2 in
    let g = c.gkr_round.ensures in
    let n =
    midway_next _ l.work _ _ l.xi _ (source_of (state c.args.transcript.now)) c.args.eq c.args.n l.round l.size
    l.invariant.2 c.loop-round-test.true c.requires.layer.1 m (rw (same_source m.steps) at g.layer) in
    (g.same ∙ l.invariant.0, g.length ∙ l.invariant.1, omega (arith, h), n)

pub returns-clause-run : goal.returns-clause-run
returns-clause-run c = midway_end _ _ _ _ _ c.args.n c.loop-round.round (omega (arith, c.loop-round.invariant.3.upto)) c.loop-round.invariant.3

pub returns-clause-steps : goal.returns-clause-steps
returns-clause-steps c = midway_steps _ _ _ _ _ c.args.n c.loop-round.round (omega (arith, c.loop-round.invariant.3.upto)) c.loop-round.invariant.3
