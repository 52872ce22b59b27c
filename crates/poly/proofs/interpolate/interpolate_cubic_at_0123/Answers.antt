use Rattle.field.specs.ElementLaws.{answer}
use Rattle.field.specs.Extension.{Extension}
use Rattle.multilinear.specs.Interpolate as Interpolate
use Rattle.poly.proofs.interpolate.interpolate_cubic_at_0123.Goals as goal

pub returns : goal.returns
returns c = answer c.cubic_at.ensures (λ i. Interpolate.cubic Extension (c.reduced.ensures.value i) (c.reduced-2.ensures.value i) (c.reduced-3.ensures.value i) (c.reduced-4.ensures.value i) (c.reduced-5.ensures.value i))
