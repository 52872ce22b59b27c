use Rattle.columns.proofs.Turns.{base_cell_is}
use Rattle.columns.proofs.horner.base_at.Goals as goal

pub returns : goal.returns
returns c = base_cell_is c.args.coeffs.now c.args.i (c.requires.clean.below c.args.i)
