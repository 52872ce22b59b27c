use Prim.Native.Nat.{◌-◌}
use Rattle.stored_writer.proofs.PutLaws.{cell_room, cell_next, layers_length, layers_turn, layers_over}
use Rattle.wire.specs.WrittenLaws.{writing_next, writing_end}
use native.Mathlib.Omega.{arith}
use Rattle.stored_writer.proofs.put_layers.Goals as goal

pub put_claims-p-requires : goal.put_claims-p-requires
put_claims-p-requires c = let h = cell_room c.loop-r.c c.args.i c.loop-r.r c.args.n _ (omega arith) c.loop-r.invariant.cell c.requires.2 in omega (arith, c.requires, h, c.loop-r.invariant.writing.ends, layers_length c.args.log.now c.loop-r.c c.loop-r.r (c.args.n - c.loop-r.r), layers_length c.args.log.now c.args.i 1 (c.args.n - 1))

pub loop-r-preserved : goal.loop-r-preserved
loop-r-preserved c = record {
  cell = cell_next c.loop-r.c c.args.i c.loop-r.r c.loop-r.invariant.cell;
  writing = writing_next _ c.loop-r.out _ _ c.loop-r.p _ _ _ _ _ (layers_turn c.args.log.now c.loop-r.c c.loop-r.r c.args.n (omega arith)) c.loop-r.invariant.writing c.put_claims-p.ensures;
}

pub returns : goal.returns
returns c = writing_end _ _ _ _ _ _ (layers_over c.args.log.now c.loop-r.c c.loop-r.r (c.args.n - c.loop-r.r) (omega arith)) c.loop-r.invariant.writing
