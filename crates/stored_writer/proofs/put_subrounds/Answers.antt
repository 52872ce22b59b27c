use Prim.Native.Nat.{◌+◌, ◌*◌, ◌-◌}
use Rattle.stored_writer.proofs.PutLaws.{polys_length, polys_turn, polys_over}
use Rattle.wire.specs.WrittenLaws.{writing_next, writing_end}
use native.Mathlib.Omega.{arith}
use Rattle.stored_writer.proofs.put_subrounds.Goals as goal

pub put_subround-p-requires : goal.put_subround-p-requires
put_subround-p-requires c = omega (arith, c.requires, c.loop-j.invariant.ends, polys_length c.args.log.now (c.args.i + 4 * c.loop-j.j) (c.args.k - c.loop-j.j), polys_length c.args.log.now c.args.i c.args.k)

pub loop-j-preserved : goal.loop-j-preserved
loop-j-preserved c = writing_next _ c.loop-j.out _ _ c.loop-j.p _ _ _ _ _ (polys_turn c.args.log.now c.args.i c.loop-j.j c.args.k (omega arith)) c.loop-j.invariant c.put_subround-p.ensures

pub returns : goal.returns
returns c = writing_end _ _ _ _ _ _ (polys_over c.args.log.now (c.args.i + 4 * c.loop-j.j) (c.args.k - c.loop-j.j) (omega arith)) c.loop-j.invariant
