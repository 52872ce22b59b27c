use mathlib.Core.Path.{◌≡◌, refl, ◌∙◌, ap, sym}
use Prim.Native.Nat.{suc, ◌+◌, ◌-◌, ◌/◌, ◌^◌}
use native.Mathlib.Omega.{arith}
use Rattle.transcript.specs.Log.{source_of, state}
use Rattle.transcript.proofs.Logs.{same_source}
use Rattle.prover_rounds.proofs.Room.{room_after}
use Rattle.prover_rounds.proofs.Sending.{going_none, going_next, going_end, half_down}
use Rattle.prover_rounds.proofs.weighed_sub_rounds.Goals as goal

pub loop-j-init : goal.loop-j-init
loop-j-init c =
    let a = c.args in
    let p = c.requires in
    let z : a.round ≡ a.round - 0 = omega arith in
    (refl, ap (λ n. n / 2) p.size ∙ ap (λ n. 2 ^ n / 2) z, omega arith, going_none _ _ _ _ _ _ _ _ _ _ _ (sym z) refl p.clean.0 p.clean.1 p.clean.2)

pub sub_round-rho-requires-clause-room : goal.sub_round-rho-requires-clause-room
sub_round-rho-requires-clause-room c =
    let p = c.requires in
    let l = c.loop-j in
    let r = room_after 16 (omega arith) (omega (arith, p.room, c.loop-j-test.true)) l.invariant.3.steps in
    (omega (arith, p.room, l.auto, c.loop-j-test.true), r)

pub loop-j-preserved : goal.loop-j-preserved
loop-j-preserved c =
    let a = c.args in
    let l = c.loop-j in
    let g = l.invariant.3 in
    let m = a.round - (l.j + 1) in
    let e : a.round - l.j ≡ suc m = omega (arith, c.loop-j-test.true) in
    let h = half_down l.half m (l.invariant.1 ∙ ap (λ n. 2 ^ n / 2) e) in
    let s = rw (same_source g.steps) at c.sub_round-rho.ensures.sent in
    let n =
    going_next _ l.work _ _ l.xi _ (source_of (state a.transcript.now)) a.eq a.pq l.j m a.round l.half (l.half / 2) a.size a.first l.t _ _ _
    (omega (arith, c.loop-j-test.true)) h c.requires.layer.0 l.invariant.2 (rw e at g) s c.load-x.ensures c.sub_round-rho.ensures.rho c.next_turn-t.ensures in
    (c.sub_round-rho.ensures.same ∙ l.invariant.0, ap (λ n. n / 2) h, omega (arith, l.invariant.2), n)

pub returns-clause-sent : goal.returns-clause-sent
returns-clause-sent c =
    let a = c.args in
    let l = c.loop-j in
    going_end _ _ _ _ (source_of (state a.transcript.now)) a.eq a.pq l.j (a.round - l.j) a.round l.half a.size a.first l.t (omega (arith, l.auto)) (omega (arith, l.auto)) l.invariant.3
