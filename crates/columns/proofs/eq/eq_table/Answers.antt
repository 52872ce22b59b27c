use Rattle.std.proofs.Common.{◌≡◌, ◌∙◌, refl, arith}
use Rattle.field.specs.Cells.{cells}
use Rattle.step.proofs.Algebra.{one_is}
use Rattle.columns.proofs.Grows.{double_le, weights_start, weights_turn, power_turn, weights_all}
use Rattle.columns.proofs.eq.eq_table.Goals as goal

pub loop-j-init : goal.loop-j-init
loop-j-init c = record { size = refl; clean = c.store.ensures.clean; weights = weights_start _ (c.store.ensures.here ∙ one_is) }

pub grow-requires-clause-room : goal.grow-requires-clause-room
grow-requires-clause-room c = omega (arith, double_le c.loop-j.j c.args.n (omega arith))

pub overflow_mul-size : goal.overflow_mul-size
overflow_mul-size c = omega (arith, double_le c.loop-j.j c.args.n (omega arith))

pub loop-j-preserved : goal.loop-j-preserved
loop-j-preserved c = let i = c.loop-j.invariant in record {
  size = power_turn _ c.loop-j.j i.size;
  clean = c.grow.ensures.clean;
  weights = weights_turn _ _ _ _ c.loop-j.j _ i.size c.load.ensures.value i.weights c.grow.ensures;
}

pub returns : goal.returns
returns c =
    let i = c.loop-j.invariant in
    let e : c.loop-j.j ≡ c.args.n = omega arith in
    let w = rw (i.size, e) at i.weights in
    weights_all c.args.n (cells c.args.x.now 0 c.args.n) i.clean (omega arith) w
