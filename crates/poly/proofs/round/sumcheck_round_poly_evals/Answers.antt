use Rattle.std.proofs.Common.{◌∙◌, ◌*◌, ◌/◌, length, sym, ap, arith}
use Rattle.field.specs.Element.{dec}
use Rattle.columns.specs.Powers.{variables_of}
use Rattle.columns.specs.Passes.{claims}
use Rattle.columns.proofs.Summands.{room_less}
use Rattle.poly.specs.Checks.{count}
use Rattle.poly.proofs.Gates.{round_open}
use Rattle.poly.proofs.Answers.{eighth}
use Rattle.poly.proofs.Rounds.{constant_round, sums_round}
use Rattle.poly.proofs.round.sumcheck_round_poly_evals.Goals as goal

pub constant-requires-clause-room : goal.constant-requires-clause-room
constant-requires-clause-room c =
    let a = c.args in
    let g = round_open a.eq.now a.p0.now a.q0.now a.p1.now a.q1.now a.lambda (sym c.in_ok-round_refusal.ensures) in
    room_less 4 (length a.eq.now) (omega arith) g.columns

pub sums-requires-clause-room : goal.sums-requires-clause-room
sums-requires-clause-room c =
    let a = c.args in
    let g = round_open a.eq.now a.p0.now a.q0.now a.p1.now a.q1.now a.lambda (sym c.in_ok-round_refusal.ensures) in
    room_less (8 * (length a.eq.now / 8)) (length a.eq.now) (omega arith) g.columns

pub constant-requires-clause-canon : goal.constant-requires-clause-canon
constant-requires-clause-canon c = let a = c.args in (round_open a.eq.now a.p0.now a.q0.now a.p1.now a.q1.now a.lambda (sym c.in_ok-round_refusal.ensures)).lambda

pub sums-requires-clause-canon : goal.sums-requires-clause-canon
sums-requires-clause-canon c = let a = c.args in (round_open a.eq.now a.p0.now a.q0.now a.p1.now a.q1.now a.lambda (sym c.in_ok-round_refusal.ensures)).lambda

pub returns-then-eq-eq4 : goal.returns-then-eq-eq4
returns-then-eq-eq4 c =
    let a = c.args in
    let e = a.eq.now in
    let z = sym c.in_ok-round_refusal.ensures in
    let g = round_open e a.p0.now a.q0.now a.p1.now a.q1.now a.lambda z in
    constant_round (count e) (variables_of (count e)) (dec a.lambda) e (claims a.p0.now a.q0.now a.p1.now a.q1.now) z (omega (arith, c.if-eq-eq4.true, g.whole)) g.power c.constant.ensures

pub returns : goal.returns
returns c =
    let a = c.args in
    let e = a.eq.now in
    let z = sym c.in_ok-round_refusal.ensures in
    let g = round_open e a.p0.now a.q0.now a.p1.now a.q1.now a.lambda z in
    sums_round (count e) (length e / 8) (variables_of (count e)) (dec a.lambda) e (claims a.p0.now a.q0.now a.p1.now a.q1.now) z (λ q. c.if-eq-eq4.false (g.whole ∙ ap (λ k. 4 * k) q)) g.power (eighth (length e)) c.sums.ensures
