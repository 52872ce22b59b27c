use Rattle.std.proofs.Common.{◌≡◌, ◌^◌}
use Rattle.field.specs.Cells.{cell, Clean}
use Rattle.field.specs.ExtRing.{ExtRing}
use Rattle.columns.specs.Tables as Tables
use Rattle.columns.proofs.eval.eval_in_place.Given as goal

abbrev pub invariant-loop-k : goal.invariant-loop-k
invariant-loop-k l = record {
  half : l.half ≡ 2 ^ l.k;
  clean : Clean l.t;
  table : Tables.overwrite ExtRing l.k (cell l.x) (cell l.t) ≡ Tables.overwrite ExtRing l.n (cell l.x) (cell l.initial.t);
}
