use mathlib.Core.Path.{refl, ap, ◌∙◌}
use Prim.Native.Nat.{ℕ, ◌+◌, ◌*◌, ◌/◌}
use lib.Seq.{length-take-le}
use Rattle.transcript.specs.Source.{label}
use native.Mathlib.Omega.{arith}
use Rattle.transcript.proofs.draw_word.Goals as goal

-- no goal today: slice-aggregate-absorb-2
-- slice-aggregate-absorb-2 c = simp length-take (omega arith)
-- no goal today: slice-aggregate-draw-2
-- slice-aggregate-draw-2 c = simp length-take (omega arith)
pub absorb-t-requires : goal.absorb-t-requires
unfolding label
absorb-t-requires c = (omega arith, c.requires.1)

pub overflow_add-log : goal.overflow_add-log
overflow_add-log c = omega (arith, c.draw-v.ensures.1)

pub returns : goal.returns
unfolding label
returns c = let a = c.args in
    let absorbed = c.absorb-t.ensures in
    record { word = c.draw-v.ensures.0; below = c.draw-v.ensures.1; log = refl; holds = absorbed.holds; blocks = absorbed.blocks_value ∙ ap (λ (n : ℕ). (10 + 4 * n) / 168) (length-take-le a.put a.log.now (omega arith)) }
