use Rattle.field.proofs.LateSums.{eleven_small, eleven_folded}
use Rattle.field.proofs.sums.eleven_sum.Goals as goal

pub returns : goal.returns
returns c = (eleven_small _, eleven_folded _)
