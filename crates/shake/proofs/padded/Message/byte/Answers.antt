use Rattle.shake.proofs.PadLaws.{byte_label, byte_word, byte_both, byte_last, byte_first, byte_zero}
use native.Mathlib.Omega.{arith}
use Rattle.shake.proofs.padded.Message.byte.Goals as goal

pub returns-then-i-self : goal.returns-then-i-self
returns-then-i-self c = (byte_label _ _ _ (omega arith) c.from.ensures, omega arith)

pub returns-then-i-size : goal.returns-then-i-size
returns-then-i-size c = (byte_word _ _ _ (omega arith) (omega arith) c.word_byte.ensures.0, c.word_byte.ensures.1)

pub returns-then-i-size-2 : goal.returns-then-i-size-2
returns-then-i-size-2 c = (byte_both _ _ _ (omega arith) (omega arith), omega arith)

pub returns-else-i-size-2 : goal.returns-else-i-size-2
returns-else-i-size-2 c = (byte_last _ _ _ (omega arith) (omega arith), omega arith)

pub returns-then-i-size-3 : goal.returns-then-i-size-3
returns-then-i-size-3 c = (byte_first _ _ _ (omega arith) (λ e. omega arith), omega arith)

pub returns-else-i-size-3 : goal.returns-else-i-size-3
returns-else-i-size-3 c = (byte_zero _ _ _ (omega arith) (λ e. omega arith), omega arith)
