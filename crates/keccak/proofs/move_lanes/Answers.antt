use Rattle.keccak.specs.State.{as_list}
use Rattle.keccak.proofs.Words.{turned}
use Rattle.keccak.proofs.Steps.{moved_with}
use native.Mathlib.Omega.{arith}
use Rattle.keccak.proofs.move_lanes.Goals as goal

pub returns : goal.returns
returns c = moved_with (as_list c.args.a)
    (turned 44 (omega arith) (omega arith) (omega arith) c.rotate_left.ensures)
    (turned 43 (omega arith) (omega arith) (omega arith) c.rotate_left-2.ensures)
    (turned 21 (omega arith) (omega arith) (omega arith) c.rotate_left-3.ensures)
    (turned 14 (omega arith) (omega arith) (omega arith) c.rotate_left-4.ensures)
    (turned 28 (omega arith) (omega arith) (omega arith) c.rotate_left-5.ensures)
    (turned 20 (omega arith) (omega arith) (omega arith) c.rotate_left-6.ensures)
    (turned 3 (omega arith) (omega arith) (omega arith) c.rotate_left-7.ensures)
    (turned 45 (omega arith) (omega arith) (omega arith) c.rotate_left-8.ensures)
    (turned 61 (omega arith) (omega arith) (omega arith) c.rotate_left-9.ensures)
    (turned 1 (omega arith) (omega arith) (omega arith) c.rotate_left-10.ensures)
    (turned 6 (omega arith) (omega arith) (omega arith) c.rotate_left-11.ensures)
    (turned 25 (omega arith) (omega arith) (omega arith) c.rotate_left-12.ensures)
    (turned 8 (omega arith) (omega arith) (omega arith) c.rotate_left-13.ensures)
    (turned 18 (omega arith) (omega arith) (omega arith) c.rotate_left-14.ensures)
    (turned 27 (omega arith) (omega arith) (omega arith) c.rotate_left-15.ensures)
    (turned 36 (omega arith) (omega arith) (omega arith) c.rotate_left-16.ensures)
    (turned 10 (omega arith) (omega arith) (omega arith) c.rotate_left-17.ensures)
    (turned 15 (omega arith) (omega arith) (omega arith) c.rotate_left-18.ensures)
    (turned 56 (omega arith) (omega arith) (omega arith) c.rotate_left-19.ensures)
    (turned 62 (omega arith) (omega arith) (omega arith) c.rotate_left-20.ensures)
    (turned 55 (omega arith) (omega arith) (omega arith) c.rotate_left-21.ensures)
    (turned 39 (omega arith) (omega arith) (omega arith) c.rotate_left-22.ensures)
    (turned 41 (omega arith) (omega arith) (omega arith) c.rotate_left-23.ensures)
    (turned 2 (omega arith) (omega arith) (omega arith) c.rotate_left-24.ensures)
