use Rattle.std.proofs.Common.{◌∙◌, ◌/◌, length, sym, ap, subst, rules, arith}
use Rattle.field.specs.Ext as E
use Rattle.step.specs.Values.{line}
use Rattle.field.specs.Element.{dec}
use Rattle.field.specs.Cells.{Clean}
use Rattle.field.specs.CellLaws.{clean_take, clean_drop}
use Rattle.columns.proofs.Halves.{half, value_none, value_step}
use Rattle.columns.proofs.eval.+eval_by_halves.Goals as goal

pub returns-then-n-eq0 : goal.returns-then-n-eq0
returns-then-n-eq0 t c =
    let a = c.args in
    record { canon = search rules; value = value_none a.n a.t.now a.x.now c.if-n-eq0.true c.load.ensures.value }

pub eval_by_halves-a-requires : goal.eval_by_halves-a-requires
eval_by_halves-a-requires t c =
    let a = c.args in
    let p = c.requires in
    let l = a.t.now in
    let s = c.split_at.ensures in
    let h = half a.n (length l) c.if-n-eq0.false p.room.0 in
    (omega arith, ((s.front_len ∙ h.0, omega (arith, p.room.1)), (subst Clean (sym s.front) (clean_take (length l / 2) l p.clean.0), p.clean.1)))

pub eval_by_halves-b-requires : goal.eval_by_halves-b-requires
eval_by_halves-b-requires t c =
    let a = c.args in
    let p = c.requires in
    let l = a.t.now in
    let s = c.split_at.ensures in
    let h = half a.n (length l) c.if-n-eq0.false p.room.0 in
    (omega arith, ((omega (arith, h, s.back_len), omega (arith, p.room.1)), (subst Clean (sym s.back) (clean_drop (length l / 2) l p.clean.0), p.clean.1)))

pub returns : goal.returns
returns t c =
    let a = c.args in
    let s = c.split_at.ensures in
    record {
      canon = search rules;
      value = value_step a.n a.t.now a.x.now _ _ c.if-n-eq0.false c.requires.room.0 s.front s.back c.eval_by_halves-a.ensures.value c.eval_by_halves-b.ensures.value (c.line_at.ensures.value ∙ ap (λ (z : E.Ext). line z (dec c.eval_by_halves-a.result) (dec c.eval_by_halves-b.result)) c.load-2.ensures.value);
    }
