use Rattle.std.proofs.Common.{◌≡◌, ◌/◌, length, sym, ap, arith}
use Rattle.field.specs.ExtRing.{ExtRing}
use Rattle.field.specs.ElementLaws.{is_eq}
use Rattle.field.specs.Cells.{cells}
use Rattle.multilinear.specs.Table as Table
use Rattle.poly.specs.Evaluations.{point}
use Rattle.poly.proofs.Gates.{eq_open}
use Rattle.poly.proofs.Answers.{evaluated}
use Rattle.poly.proofs.eq.eval_eq_mle.Goals as goal

pub eq_points-requires : goal.eq_points-requires
eq_points-requires c =
    let g = eq_open c.args.x.now c.args.y.now (sym c.in_ok-eq_refusal.ensures) in
    record { room = (omega arith, omega (arith, g.same)); clean = (g.first, g.second) }

pub returns : goal.returns
returns c =
    let x = c.args.x.now in
    let y = c.args.y.now in
    let e = sym c.in_ok-eq_refusal.ensures in
    let n : length x / 4 ≡ length y / 4 = ap (λ k. k / 4) (eq_open x y e).same in
    evaluated (Table.eq ExtRing (point x) (point y)) e (is_eq c.eq_points.ensures (ap (λ k. Table.eq ExtRing (point x) (cells y 0 k)) n))
