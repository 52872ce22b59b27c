use Rattle.std.proofs.Common.{◌≡◌, ◌∙◌, ap, ℕ, arith, rules}
use Rattle.field.specs.Ext as E
use Rattle.field.specs.Cells.{cell}
use Rattle.field.specs.ExtRing.{ExtRing}
use Rattle.columns.specs.Tables as Tables
use Rattle.columns.specs.PowerLaws.{power_le}
use Rattle.columns.proofs.Merges.{half_of, in_place_turn, in_place_end, in_place_value, in_place_table}
use Rattle.columns.proofs.eval.eval_in_place.Goals as goal

pub merge-requires-clause-room : goal.merge-requires-clause-room
merge-requires-clause-room c = omega (arith, power_le c.loop-k.k c.args.n (omega arith))

pub loop-k-preserved : goal.loop-k-preserved
loop-k-preserved c = let i = c.loop-k.invariant in record {
  half = half_of c.loop-k.k c.loop-k.half (omega arith) i.half;
  clean = c.merge.ensures.clean;
  table = in_place_turn _ _ c.loop-k.k c.loop-k.half (cell c.args.x.now) _ _ (omega arith) i.half c.load.ensures.value c.merge.ensures i.table;
}

pub returns : goal.returns
returns c =
    let a = c.args in
    let i = c.loop-k.invariant in
    let e : cell c.loop-k.t ≡ Tables.overwrite ExtRing a.n (cell a.x.now) (cell a.t.now) = in_place_end c.loop-k.k c.loop-k.t (cell a.x.now) _ (omega arith) i.table in
    record {
      value = record { canon = search rules; value = c.load-2.ensures.value ∙ ap (λ (f : ℕ → E.Ext). f 0) e ∙ in_place_value a.n a.x.now a.t.now };
      table = in_place_table a.n _ i.clean (omega arith) e;
    }
