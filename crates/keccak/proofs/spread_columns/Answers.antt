use mathlib.Core.Path.{refl}
use Rattle.keccak.proofs.spread_columns.Goals as goal

pub returns : goal.returns
returns c = refl
