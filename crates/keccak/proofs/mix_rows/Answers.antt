use mathlib.Core.Path.{refl}
use Rattle.keccak.specs.Keccak.{chi}
use Rattle.keccak.proofs.mix_rows.Goals as goal

pub returns : goal.returns
unfolding chi
returns c = refl
