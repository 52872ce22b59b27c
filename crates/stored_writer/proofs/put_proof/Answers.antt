use Rattle.stored_writer.proofs.WholeLaws.{front_size, back_size, proof_form}
use native.Mathlib.Omega.{arith}
use Rattle.stored_writer.proofs.put_proof.Goals as goal

pub put_back-requires : goal.put_back-requires
put_back-requires c = omega (arith, c.requires, c.put_header-a.ensures.ends, c.put_header-a.auto, c.put_front-b.ensures.ends, c.put_front-b.auto, front_size c.args.log.now c.args.i c.args.n c.requires.0, back_size c.args.log.now c.args.i c.args.n c.requires.0)

pub returns : goal.returns
returns c = proof_form c.args.log.now c.args.i c.args.n c.requires.0 _ _ _ _ _ _ _ _ _ c.body_size.ensures c.put_header-a.ensures c.put_front-b.ensures c.put_back.ensures
