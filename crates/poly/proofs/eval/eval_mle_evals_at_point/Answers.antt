use Rattle.std.proofs.Common.{◌^◌, sym, arith}
use Rattle.field.specs.ExtRing.{ExtRing}
use Rattle.field.specs.Cells.{cell}
use Rattle.multilinear.specs.Table as Table
use Rattle.field.specs.Column.{flat}
use Rattle.columns.specs.Tables as Tables
use Rattle.poly.specs.Checks.{count}
use Rattle.poly.specs.Evaluations.{point}
use Rattle.poly.proofs.Gates.{mle_open}
use Rattle.poly.proofs.Answers.{evaluated_table}
use Rattle.poly.proofs.eval.eval_mle_evals_at_point.Goals as goal

pub eval_in_place-requires : goal.eval_in_place-requires
eval_in_place-requires c =
    let g = mle_open c.args.evals.now c.args.x.now (sym c.in_ok-mle_refusal.ensures) in
    record { room = (g.entries, omega arith); clean = (g.table, g.point) }

pub returns : goal.returns
returns c =
    let t = c.args.evals.now in
    let x = c.args.x.now in
    evaluated_table (Table.value ExtRing (cell t) (point x)) (flat (Tables.overwrite ExtRing (count x) (cell x) (cell t)) (2 ^ count x)) t (sym c.in_ok-mle_refusal.ensures) c.eval_in_place.ensures.value c.eval_in_place.ensures.table
