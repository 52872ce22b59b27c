use Rattle.field.specs.ElementLaws.{answer}
use Rattle.field.specs.Extension.{Extension}
use Rattle.multilinear.specs.Interpolate as Interpolate
use Rattle.poly.proofs.interpolate.interpolate_quadratic_at_012.Goals as goal

pub returns : goal.returns
returns c = answer c.quadratic_at.ensures (λ i. Interpolate.quadratic Extension (c.reduced.ensures.value i) (c.reduced-2.ensures.value i) (c.reduced-3.ensures.value i) (c.reduced-4.ensures.value i))
