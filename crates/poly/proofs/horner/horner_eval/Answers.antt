use Rattle.std.proofs.Common.{sym, rules}
use Rattle.std.proofs.iter.Serving.{serving}
use Rattle.field.specs.ExtRing.{ExtRing}
use Rattle.field.specs.Element.{dec, Canon}
use Rattle.field.specs.Cells.{cell, Clean}
use Rattle.columns.specs.Tables as Tables
use Rattle.poly.specs.Checks.{count}
use Rattle.poly.proofs.Gates.{horner_open}
use Rattle.poly.proofs.Answers.{evaluated}
use Rattle.poly.proofs.horner.horner_eval.Goals as goal

pub horner-requires : goal.horner-requires
horner-requires c =
    let g = horner_open _ _ c.args.coeffs.now c.args.x (sym c.in_ok-horner_refusal.ensures) in
    let l : Clean c.args.coeffs.now = g.list in
    let e : Canon c.args.x = g.element in
    grind serving

pub returns : goal.returns
returns c =
    let s = c.args.coeffs.now in
    evaluated (Tables.polynomial ExtRing (count s) (cell s) (dec c.args.x)) (sym c.in_ok-horner_refusal.ensures) (c.horner.ensures (cell s) (λ i e l p. search rules))
