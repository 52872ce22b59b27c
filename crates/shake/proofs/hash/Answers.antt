use mathlib.Core.Path.{refl, ap, ◌∙◌}
use mathlib.Core.List.{List}
use Prim.Native.Nat.{ℕ, ◌%◌}
use lib.ListN.{get_or}
use Rattle.shake.proofs.SqueezeLaws.{lane_bytes, squeezing_none, squeezing_same, squeezing_next, squeezing_all}
use native.Mathlib.Omega.{arith}
use Rattle.shake.proofs.hash.Goals.{then-at-eq167, else-at-eq167}
use Rattle.shake.proofs.hash.Goals as goal

pub loop-i-init : goal.loop-i-init
loop-i-init c = (refl, squeezing_none c.squeezed_lanes-b.ensures)

pub loop-i-preserved : goal.loop-i-preserved
loop-i-preserved c =
    let w = c.loop-i.invariant.1 in
    let j = c.loop-i.i % 168 % 8 in
    let e = ap (λ (l : List ℕ). get_or l j 0) c.to_le_bytes.ensures ∙ lane_bytes _ j (omega arith) in (
      refl,
      elim c.if-at-eq167.branch [
        | then-at-eq167 u ↦
            rw (u.s-is, u.b-is)
            (squeezing_next w (omega (arith, w.len)) e (omega arith) u.permute-s.ensures u.squeezed_lanes-b-then-at-eq167.ensures)
        | else-at-eq167 u ↦ rw (u.s-is, u.b-is) (squeezing_same w (omega (arith, w.len)) e (λ z. omega arith))
      ],
    )

pub returns : goal.returns
returns c = squeezing_all _ c.loop-i.invariant.1 (omega (arith, c.loop-i.invariant.1.len)) c.finish-s.ensures
