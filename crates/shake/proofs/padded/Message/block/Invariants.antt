use Prim.Native.Nat.{◌*◌}
use Rattle.shake.specs.Sponge.{padded, lane_at}
use Rattle.shake.specs.Drawn.{message}
use Rattle.shake.proofs.BlockLaws.{Filled}
use Rattle.shake.proofs.padded.Message.block.Given as goal

abbrev pub invariant-loop-n : goal.invariant-loop-n
invariant-loop-n l = Filled (lane_at (padded (message l.self.label.now l.self.words.now))) (21 * l.k) l.lane-items l.n
