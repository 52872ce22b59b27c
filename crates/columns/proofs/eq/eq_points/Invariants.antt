use Rattle.field.specs.Element.{Is}
use Rattle.field.specs.ExtRing.{ExtRing}
use Rattle.field.specs.Cells.{cells}
use Rattle.multilinear.specs.Table as Table
use Rattle.columns.proofs.eq.eq_points.Given as goal

abbrev pub invariant-loop-i : goal.invariant-loop-i
invariant-loop-i l = Is l.eq (Table.eq ExtRing (cells l.x 0 l.i) (cells l.y 0 l.i))
