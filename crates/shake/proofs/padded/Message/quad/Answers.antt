use Rattle.shake.proofs.QuadLaws.{quad_inside, quad_zero}
use native.Mathlib.Omega.{arith}
use Rattle.shake.proofs.padded.Message.quad.Goals as goal

pub returns-then-i-size : goal.returns-then-i-size
returns-then-i-size c =
    (quad_inside _ _ _ (omega arith) (omega arith) c.quad_of_words.ensures.0, c.quad_of_words.ensures.1)

pub returns-then-i-size-3 : goal.returns-then-i-size-3
returns-then-i-size-3 c = (quad_zero _ _ _ (omega arith) (omega arith), omega arith)
