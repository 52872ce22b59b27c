use Rattle.std.proofs.Common.{◌∙◌, ◌*◌, ◌/◌, ◌++◌, length, drop, sym, ap, arith}
use lib.Seq.{length-take-le}
use Rattle.field.specs.ExtRing.{ExtRing}
use Rattle.field.specs.Element.{dec}
use Rattle.field.specs.Cells.{cell}
use Rattle.field.specs.Column.{flat}
use Rattle.multilinear.specs.Table as Table
use Rattle.poly.proofs.Gates.{fold_open}
use Rattle.poly.proofs.Answers.{front_back, eighth, not_refused}
use Rattle.poly.proofs.fold.fold_mle_evals.Goals as goal

pub fold_into-requires : goal.fold_into-requires
fold_into-requires c =
    let e = sym c.fold_mle_evals_refusal.ensures ∙ not_refused _ (sym c.is_err.ensures.value ∙ c.if-is_err.false) in
    let g = fold_open c.args.source.now c.args.target.now c.args.r e in
    record { room = (omega arith, omega (arith, g.room)); clean = (g.list, g.element) }

pub slice_bounds-result-end-2 : goal.slice_bounds-result-end-2
slice_bounds-result-end-2 c =
    let e = sym c.fold_mle_evals_refusal.ensures ∙ not_refused _ (sym c.is_err.ensures.value ∙ c.if-is_err.false) in
    let g = fold_open c.args.source.now c.args.target.now c.args.r e in
    sym (length-take-le (4 * (length c.args.source.now / 8)) c.fold_into.new.dst (omega (arith, c.fold_into.auto, g.room)))

pub returns : goal.returns
returns c =
    let s = c.args.source.now in
    let d = c.args.target.now in
    let r = c.args.r in
    let e = sym c.fold_mle_evals_refusal.ensures ∙ not_refused _ (sym c.is_err.ensures.value ∙ c.if-is_err.false) in
    let g = fold_open s d r e in
    let f = c.fold_into.ensures ∙ ap (λ n. flat (Table.fold ExtRing (cell s) (dec r)) n ++ drop (4 * n) d) (eighth (length s)) in
    let b = front_back s d r e c.if-source-eq4.false g.whole (length s / 8) (eighth (length s)) f in
    record { held = b.0; which = rw b.1 }
