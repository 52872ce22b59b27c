use mathlib.Core.Path.{◌∙◌, ap}
use Rattle.field.specs.Ext as E
use Rattle.field.specs.ExtRing.{e_add_comm}
use Rattle.field.specs.Element.{dec}
use Rattle.step.proofs.Algebra.{line_turned}
use Rattle.step.proofs.line_at.Goals as goal

pub returns : goal.returns
returns c = let a = c.args in
    record {
      canon = c.times_plus.ensures.canon;
      value = c.times_plus.ensures.value ∙ e_add_comm _ _ ∙ ap (λ t. E.add (dec a.a) (E.mul t (dec a.r))) c.minus.ensures.value ∙ line_turned (dec a.a) (dec a.b) (dec a.r);
    }
