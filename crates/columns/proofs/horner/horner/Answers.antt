use Rattle.std.proofs.Common.{◌∙◌, ◌-◌, rules, arith}
use Rattle.field.specs.Element.{dec}
use Rattle.columns.proofs.Turns.{zero_is, horner_start, horner_turn, horner_end}
use Rattle.columns.proofs.horner.horner.Goals as goal

pub loop-i-init : goal.loop-i-init
loop-i-init g c = (search rules, λ k r. record { canon = search rules; value = zero_is ∙ horner_start c.args.n k (dec c.args.x) })

pub returns : goal.returns
returns g c = λ k r. let h = c.loop-i.invariant.1 k r in record { canon = h.canon; value = horner_end c.args.n c.loop-i.i k (dec c.args.x) (omega arith) h.value }

pub loop-i-preserved : goal.loop-i-preserved
loop-i-preserved g c = (
  search rules,
  λ k r.
      let e = r (c.loop-i.i - 1) c.coefficient.result (omega arith) c.coefficient.ensures in
      let h = c.loop-i.invariant.1 k r in
      record { canon = search rules; value = horner_turn c.args.n c.loop-i.i k (dec c.args.x) (dec c.loop-i.acc) _ (omega arith) (omega arith) h.value e.value c.horner_step-acc.ensures.value },
)
