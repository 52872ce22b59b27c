use Rattle.shake.specs.Quads.{quad_at}
use Rattle.shake.proofs.QuadLaws.{quad_eq}
use native.Mathlib.Omega.{arith}
use Rattle.shake.proofs.padded.Message.quad_by_bytes.Goals as goal

pub returns : goal.returns
unfolding quad_at
returns c = (quad_eq c.byte.ensures.0 c.byte-2.ensures.0 c.byte-3.ensures.0 c.byte-4.ensures.0, omega arith)
