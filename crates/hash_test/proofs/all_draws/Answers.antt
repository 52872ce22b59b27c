use mathlib.Core.Path.{refl}
use native.Mathlib.Omega.{arith}
use Rattle.shake.proofs.SpongeLaws.{holds_next}
use Rattle.hash_test.proofs.all_draws.Goals as goal

pub loop-n-preserved : goal.loop-n-preserved
loop-n-preserved c = (refl, holds_next _ c.args.words.now c.loop-n.n c.print_drawn-s.ensures (omega arith))
