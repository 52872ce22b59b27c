use mathlib.Core.Path.{sym, subst, ◌∙◌}
use Prim.Native.Nat.{◌≤◌}
use lib.ListN.{length, drop}
use lib.Seq.{length-take-le, length_front}
use Rattle.log_replay.specs.Replayed.{kept}
use Rattle.log_replay.proofs.Settling.{fits_most, fits_in, own_holds, replayed_so}
use native.Mathlib.Omega.{arith}
use Rattle.log_replay.proofs.replay.Goals as goal

pub copy_point-requires : goal.copy_point-requires
copy_point-requires c = let p = length c.args.point.now in
    (fits_in p c.fitting-k.ensures, fits_most p c.fitting-k.ensures)

pub slice_bounds-xi-end : goal.slice_bounds-xi-end
slice_bounds-xi-end c = omega (arith, fits_most (length c.args.point.now) c.fitting-k.ensures, c.copy_point.auto.point)

pub slice_bounds-own-end : goal.slice_bounds-own-end
slice_bounds-own-end c = own_holds (kept c.args.proof.now c.args.rounds c.args.modes c.args.log.now) c.args.point.now c.verify_gkr-ending.result c.fitting-k.ensures c.take_challenges.ensures c.copy_point.ensures c.verify_gkr-ending.ensures c.verify_gkr-ending.auto.log

pub slice_bounds-settle-end-2 : goal.slice_bounds-settle-end-2
slice_bounds-settle-end-2 c = sym (length_front c.copy_point.new.point c.verify_gkr-ending.new.point c.fitting-k.result c.verify_gkr-ending.auto.point ∙ c.copy_point.auto.point)

pub returns : goal.returns
returns c = c.settle.ensures
    ∙ replayed_so (kept c.args.proof.now c.args.rounds c.args.modes c.args.log.now) c.args.point.now c.verify_gkr-ending.result c.fitting-k.ensures c.take_challenges.ensures c.copy_point.ensures c.verify_gkr-ending.ensures c.verify_gkr-ending.auto.point (drop c.fitting-k.result c.copy_point.new.point)

pub slice_bounds-verify_gkr-end-2 : goal.slice_bounds-verify_gkr-end-2
slice_bounds-verify_gkr-end-2 c = sym (length-take-le _ _ (omega (arith, fits_most (length c.args.point.now) c.fitting-k.ensures, c.copy_point.auto.point)))

pub slice_bounds-settle-end : goal.slice_bounds-settle-end
slice_bounds-settle-end c = sym (length-take-le _ _ (own_holds (kept c.args.proof.now c.args.rounds c.args.modes c.args.log.now) c.args.point.now c.verify_gkr-ending.result c.fitting-k.ensures c.take_challenges.ensures c.copy_point.ensures c.verify_gkr-ending.ensures c.verify_gkr-ending.auto.log))

pub settle-requires : goal.settle-requires
settle-requires c =
    let p = length c.args.point.now in
    (subst (λ m. c.fitting-k.result ≤ m) (sym (length_front c.copy_point.new.point c.verify_gkr-ending.new.point c.fitting-k.result c.verify_gkr-ending.auto.point ∙ c.copy_point.auto.point)) (fits_most p c.fitting-k.ensures), fits_in p c.fitting-k.ensures)
