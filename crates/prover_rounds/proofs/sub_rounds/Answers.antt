use mathlib.Core.Path.{◌∙◌, ap}
use native.Mathlib.Omega.{arith}
use Rattle.field.specs.Element.{dec}
use Rattle.field.specs.ElementLaws.{zero_is}
use Rattle.step.specs.Values.{minus}
use Rattle.prover_rounds.proofs.Weighing.{weighed_rounds}
use Rattle.prover_rounds.proofs.sub_rounds.Goals as goal

pub returns-clause-sent : goal.returns-clause-sent
returns-clause-sent c =
    let a = c.args in
    let p = c.requires in
    let n = c.minus.ensures.value ∙ ap (λ z. minus z (dec a.lambda)) zero_is.value in
    weighed_rounds _ _ _ _ _ _ _ a.eq _ a.round a.size (dec a.lambda) _ _ p.size (omega (arith, p.layer)) n c.weigh.ensures c.weighed_sub_rounds.ensures.sent c.weigh-2.ensures
