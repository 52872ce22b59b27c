use mathlib.Core.Path.{refl}
use Rattle.shake.specs.Sponge.{absorbed}
use native.Mathlib.Omega.{arith}
use Rattle.shake.proofs.start.Goals as goal

pub returns : goal.returns
unfolding absorbed
returns c m = record { within = omega arith; state = refl }
