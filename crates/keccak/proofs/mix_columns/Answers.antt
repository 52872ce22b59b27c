use Rattle.keccak.specs.State.{as_list}
use Rattle.keccak.proofs.Words.{turned, column_fits}
use Rattle.keccak.proofs.Steps.{theta_with}
use native.Mathlib.Omega.{arith}
use Rattle.keccak.proofs.mix_columns.Goals as goal

pub returns : goal.returns
returns c = let a = as_list c.args.a in
    theta_with _
    (turned 1 (column_fits a 1 (omega arith) (omega arith) (omega arith) (omega arith) (omega arith)) (omega arith) (omega arith) c.rotate_left.ensures)
    (turned 1 (column_fits a 2 (omega arith) (omega arith) (omega arith) (omega arith) (omega arith)) (omega arith) (omega arith) c.rotate_left-2.ensures)
    (turned 1 (column_fits a 3 (omega arith) (omega arith) (omega arith) (omega arith) (omega arith)) (omega arith) (omega arith) c.rotate_left-3.ensures)
    (turned 1 (column_fits a 4 (omega arith) (omega arith) (omega arith) (omega arith) (omega arith)) (omega arith) (omega arith) c.rotate_left-4.ensures)
    (turned 1 (column_fits a 0 (omega arith) (omega arith) (omega arith) (omega arith) (omega arith)) (omega arith) (omega arith) c.rotate_left-5.ensures)
    c.spread_columns.ensures
