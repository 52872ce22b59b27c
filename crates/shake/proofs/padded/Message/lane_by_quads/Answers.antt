use Rattle.shake.proofs.QuadLaws.{lane_of_quads}
use Rattle.shake.proofs.padded.Message.lane_by_quads.Goals as goal

pub returns : goal.returns
returns c = lane_of_quads _ _ c.quad.ensures.0 c.quad-2.ensures.0
