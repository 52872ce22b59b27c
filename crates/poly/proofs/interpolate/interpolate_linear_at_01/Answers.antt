use Rattle.field.specs.ElementLaws.{answer}
use Rattle.field.specs.ExtRing.{ExtRing}
use Rattle.multilinear.specs.Forms as Forms
use Rattle.poly.proofs.interpolate.interpolate_linear_at_01.Goals as goal

pub returns : goal.returns
returns c = answer c.line_at.ensures (λ i. Forms.line ExtRing (c.reduced.ensures.value i) (c.reduced-2.ensures.value i) (c.reduced-3.ensures.value i))
