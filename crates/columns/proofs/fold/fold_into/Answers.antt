use Rattle.std.proofs.Common.{arith}
use Rattle.field.specs.Element.{dec}
use Rattle.field.specs.Cells.{cell}
use Rattle.field.specs.ExtRing.{ExtRing}
use Rattle.multilinear.specs.Table as Table
use Rattle.columns.proofs.Writes.{fill_turn}
use Rattle.columns.proofs.fold.fold_into.Goals as goal

pub loop-y-preserved : goal.loop-y-preserved
loop-y-preserved c = fill_turn (Table.fold ExtRing (cell c.args.src.now) (dec c.args.r)) c.loop-y.y c.args.dst.now (omega arith) c.loop-y.invariant c.put.ensures c.fold_entry.ensures.value
