use mathlib.Core.Path.{sym, subst}
use Rattle.std.proofs.Common.{arith}
use Rattle.field.specs.Cells.{Clean}
use Rattle.field.specs.CellLaws.{clean_take, clean_drop}
use Rattle.evaluation.proofs.Halving.{half, rows_one, rows_halved}
use Rattle.evaluation.proofs.halves.+eval_rows_by_halves.Goals as goal

pub returns-then-n-eq0 : goal.returns-then-n-eq0
returns-then-n-eq0 t c = rows_one _ _ _ c.if-n-eq0.true c.load_node.ensures

pub eval_rows_by_halves-a-requires : goal.eval_rows_by_halves-a-requires
eval_rows_by_halves-a-requires t c =
    let p = c.requires in
    let s = c.split_at.ensures in
    let h = half _ _ c.if-n-eq0.false p.room.0 in
    (omega arith, ((omega (arith, h, s.front_len), omega (arith, p.room.1)), (subst Clean (sym s.front) (clean_take _ _ p.clean.0), p.clean.1)))

pub eval_rows_by_halves-b-requires : goal.eval_rows_by_halves-b-requires
eval_rows_by_halves-b-requires t c =
    let p = c.requires in
    let s = c.split_at.ensures in
    let h = half _ _ c.if-n-eq0.false p.room.0 in
    (omega arith, ((omega (arith, h, s.back_len), omega (arith, p.room.1)), (subst Clean (sym s.back) (clean_drop _ _ p.clean.0), p.clean.1)))

pub returns : goal.returns
returns t c =
    let s = c.split_at.ensures in
    rows_halved _ _ _ _ _ c.if-n-eq0.false c.requires.room.0 s.front s.back c.eval_rows_by_halves-a.ensures c.eval_rows_by_halves-b.ensures c.mix.ensures
