use Prim.Native.Nat.{◌+◌, ◌*◌}
use Rattle.field.specs.Cells.{cell}
use borrow.Author.Rules.{rules}
use Rattle.field.proofs.load.Goals as goal

pub returns : goal.returns
unfolding cell
returns c = let h = c.requires.clean.below in
    let k = 4 * c.args.i in
    record { canon = record { c0 = h k; c1 = h (k + 1); c2 = h (k + 2); c3 = h (k + 3) }; value = search rules }
