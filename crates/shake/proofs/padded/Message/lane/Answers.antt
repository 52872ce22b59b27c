use native.Mathlib.Omega.{arith}
use Rattle.shake.proofs.QuadLaws.{lane_inside, lane_zero, lane_last}
use Rattle.shake.proofs.padded.Message.lane.Goals as goal

pub returns-then-at-self-2 : goal.returns-then-at-self-2
returns-then-at-self-2 c = lane_inside _ _ _ (omega arith) (omega arith) c.lane_of_words.ensures

pub returns-then-at-size-2 : goal.returns-then-at-size-2
returns-then-at-size-2 c = lane_last _ _ _ (omega arith) (omega arith)

pub returns-else-at-size-2 : goal.returns-else-at-size-2
returns-else-at-size-2 c = lane_zero _ _ _ (omega arith) (omega arith)
