use Rattle.std.proofs.Common.{◌≡◌, ◌^◌}
use Rattle.field.specs.Cells.{Clean, cells}
use Rattle.columns.proofs.Grows.{Weighs}
use Rattle.columns.proofs.eq.eq_table.Given as goal

abbrev pub invariant-loop-j : goal.invariant-loop-j
invariant-loop-j l = record {
  size : l.size ≡ 2 ^ l.j;
  clean : Clean l.ws;
  weights : Weighs l.ws l.size (cells l.x 0 l.j);
}
