use Rattle.std.proofs.Common.{◌≡◌, ◌*◌, ◌++◌, drop}
use Rattle.field.specs.Element.{dec}
use Rattle.field.specs.Cells.{cell}
use Rattle.field.specs.ExtRing.{ExtRing}
use Rattle.field.specs.Column.{flat}
use Rattle.multilinear.specs.Table as Table
use Rattle.columns.proofs.fold.fold_into.Given as goal

abbrev pub invariant-loop-y : goal.invariant-loop-y
invariant-loop-y l = l.dst ≡ flat (Table.fold ExtRing (cell l.src) (dec l.r)) l.y ++ drop (4 * l.y) l.initial.dst
