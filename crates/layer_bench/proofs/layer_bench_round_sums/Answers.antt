use Rattle.layer_bench.specs.Sums.{spoken}
use Rattle.prover_layer.specs.Passes.{side_sum, lead}
use Rattle.prover_layer.specs.Message.{IsTurn, parabola, said}
use Rattle.prover_layer.specs.declared.Turn.{Turn}
use Rattle.multilinear.specs.Forms as Forms
use Rattle.field.specs.ExtRing.{ExtRing}
use Rattle.field.specs.Ext as E
use native.Mathlib.Omega.{arith}
use Prim.Native.Nat.{ℕ}
use mathlib.Core.List.{List}
use mathlib.Core.Path.{◌≡◌, ◌∙◌}
use Rattle.layer_bench.proofs.layer_bench_round_sums.Goals as goal

said-as : (ws : List ℕ) (at b n : ℕ) (t : Turn) {a z c x : E.Ext} → a ≡ c → z ≡ x → IsTurn t a z (side_sum ws at b 0 n) (side_sum ws at b 1 n)
    → (y : E.Ext) → said t (lead ws at b n) y ≡ spoken ws at b n c x y
said-as ws at b n t e f T y = λ i. E.mul (E.mul ((T.c.value ∙ e) i) (Forms.agree ExtRing ((T.x.value ∙ f) i) y)) (parabola (T.h0.value i) (T.h1.value i) (lead ws at b n) y)

pub put_three-requires : goal.put_three-requires
put_three-requires c = record { room = omega (arith, c.requires.room); clean = (c.requires.clean.2, record { s1 = c.sumcheck_round_poly_evals-s.ensures.0.s1.canon; s2 = c.sumcheck_round_poly_evals-s.ensures.0.s2.canon; s3 = c.sumcheck_round_poly_evals-s.ensures.0.s3.canon }) }

pub returns : goal.returns
returns c = let s = c.sumcheck_round_poly_evals-s.ensures in
    let p = c.put_three.ensures in
    let e = said-as _ _ _ _ _ c.load-c.ensures.value c.load-x.ensures.value c.open_turn-t.ensures in
    (record { clean = p.clean; first = p.first ∙ s.0.s1.value ∙ e _; second = p.second ∙ s.0.s2.value ∙ e _; third = p.third ∙ s.0.s3.value ∙ e _; rest = p.rest }, s.1)
