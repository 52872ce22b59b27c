use Rattle.std.proofs.Common.{sym, arith}
use Rattle.field.specs.ExtRing.{ExtRing}
use Rattle.field.specs.Cells.{cell}
use Rattle.multilinear.specs.Table as Table
use Rattle.poly.specs.Evaluations.{point}
use Rattle.poly.proofs.Gates.{mle_open}
use Rattle.poly.proofs.Answers.{evaluated}
use Rattle.poly.proofs.eval.eval_mle_evals_by_halves.Goals as goal

pub eval_by_halves-requires : goal.eval_by_halves-requires
eval_by_halves-requires c =
    let g = mle_open c.args.evals.now c.args.x.now (sym c.in_ok-mle_refusal.ensures) in
    record { room = (g.entries, omega arith); clean = (g.table, g.point) }

pub returns : goal.returns
returns c = evaluated (Table.value ExtRing (cell c.args.evals.now) (point c.args.x.now)) (sym c.in_ok-mle_refusal.ensures) c.eval_by_halves.ensures
