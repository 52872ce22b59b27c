use Rattle.field.specs.ElementLaws.{enc_of_is}
use Rattle.field.proofs.extension.ExtMulBase.mul.Goals as goal

pub returns : goal.returns
returns c = enc_of_is c.times_word.ensures
