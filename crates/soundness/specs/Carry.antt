-- Two transcripts of which one carries over to the other give the same verdict.
-- Assumes nothing.
use Rattle.std.specs.Prelude.{ℕ, suc, ◌≡◌, Bool, true, false}
use Rattle.std.proofs.Math.Path.{refl, ap, ap₂}
use Rattle.std.proofs.Common.{sym, ◌∙◌}
use Rattle.std.proofs.Math.Bool.{cond}
use mathlib.Core.List.{List, [], ◌∷◌}
use Rattle.std.proofs.Math.ListN.{length}
use Rattle.std.proofs.Math.Dec.{eqb}
use Rattle.ring.specs.Field.{Field}
use Rattle.multilinear.specs.Forms
use Rattle.multilinear.specs.RoundSum
use Rattle.multilinear.specs.RoundSum.{Claims}
use Rattle.gkr.specs.Run.{Transcript, Frac, Cubic, Proof}
use Rattle.gkr.specs.Tree
use Rattle.gkr.specs.Sumcheck
use Rattle.gkr.specs.Gkr
use Rattle.gkr.specs.Gkr.{accepted, zero_rounds, layer_count, poly_count, zero_check, root_check, subround_count, layer_check}
use Rattle.soundness.specs.Steps.{batched, next_claim}
use Rattle.soundness.specs.Challenges.{Accepts}

-- logs of S become logs of T, with the same challenges
pub record Carries {A : Type 0} (S T : Transcript A) : Type 0 where
  pub to : S.Log → T.Log
  pub observes : (x : A) (t : S.Log) → to (S.observe x t) ≡ T.observe x (to t)
  pub draws : (t : S.Log) → S.draw t ≡ T.draw (to t)
  pub drawns : (t : S.Log) → to (S.drawn t) ≡ T.drawn (to t)

module _ (F : Field) (S T : Transcript F.ring.carrier) (M : Carries S T) where
  open F use {ring as K, same}
  open F.ring use {carrier as R, mul as ◌*◌, nil, one}

  infixl 70 ◌*◌
  open M use {to, observes, draws, drawns}

  abbrev reduce : Claims R → R → Frac R
  reduce = Tree.reduce_to_single_evaluation K

  abbrev sum : Claims R → Frac R
  sum = Tree.compute_recursive_relations K

  abbrev check : (U : Transcript R) → List (Cubic R) → List R → R → R → U.Log → Sumcheck.Checked F U
  check U = Sumcheck.verify_gkr_sumcheck F U

  -- a verdict over S as one over T
  abbrev pub carried : Gkr.Verdict F S → Gkr.Verdict F T
  carried (accepted v xi t) = accepted v xi (to t)
  carried zero_rounds = zero_rounds
  carried (layer_count a b) = layer_count a b
  carried (poly_count a b) = poly_count a b
  carried (zero_check a t) = zero_check a (to t)
  carried (root_check a b t) = root_check a b (to t)
  carried (subround_count a b c t) = subround_count a b c (to t)
  carried (layer_check a b c t) = layer_check a b c (to t)

  -- two tests, one in the other
  carried_tests : (b d : Bool) (x y w : Gkr.Verdict F S) → cond b (cond d (carried x) (carried y)) (carried w) ≡ carried (cond b (cond d x y) w)
  carried_tests true true x y w = refl
  carried_tests true false x y w = refl
  carried_tests false d x y w = refl

  cubic_to : (m : Cubic R) (t : S.Log) → Sumcheck.observe_cubic F T m (to t) ≡ to (Sumcheck.observe_cubic F S m t)
  cubic_to m t = sym (observes _ _ ∙ ap (T.observe m.at3) (observes _ _ ∙ ap (T.observe m.at2) (observes _ t)))

  claims_to : (c : Claims R) (t : S.Log) → Gkr.observe_layer_claims F T c (to t) ≡ to (Gkr.observe_layer_claims F S c t)
  claims_to c t = sym (observes _ _ ∙ ap (T.observe c.q1) (observes _ _ ∙ ap (T.observe c.p1) (observes _ _ ∙ ap (T.observe c.q0) (observes _ t))))

  abbrev checked : Sumcheck.Checked F S → Sumcheck.Checked F T
  checked C = record { claim = C.claim; point = C.point; eq = C.eq; log = to C.log }

  check_to : (polys : List (Cubic R)) (left : List R) (claim a : R) (t : S.Log) → check T polys left claim a (to t) ≡ checked (check S polys left claim a t)
  unfolding Sumcheck.verify_gkr_sumcheck
  check_to [] left claim a t = refl
  check_to (m ∷ polys) [] claim a t = refl
  check_to (m ∷ polys) (x ∷ left) claim a t =
      let t₁ = Sumcheck.observe_cubic F S m t in
      let rho = S.draw t₁ in
      let go : R → Sumcheck.Checked F T → Sumcheck.Checked F T = λ rho C. record { claim = C.claim; point = rho ∷ C.point; eq = C.eq; log = C.log } in
      let run : R → T.Log → Sumcheck.Checked F T = λ rho u. check T polys left (next_claim F claim m rho) (a * Forms.agree K x rho) u in
      ap (λ u. go (T.draw u) (run (T.draw u) (T.drawn u))) (cubic_to m t)
      ∙ ap₂ (λ rho u. go rho (run rho u)) (sym (draws t₁)) (sym (drawns t₁))
      ∙ ap (go rho) (check_to polys left (next_claim F claim m rho) (a * Forms.agree K x rho) (S.drawn t₁))

  rounds_to : (polyss : List (List (Cubic R))) (cs : List (Claims R)) (v : Frac R) (xi : List R) (t : S.Log) → Gkr.rounds F T polyss cs v xi (to t) ≡ carried (Gkr.rounds F S polyss cs v xi t)
  unfolding Gkr.rounds
  rounds_to [] cs v xi t = refl
  rounds_to (polys ∷ polyss) [] v xi t = refl
  rounds_to (polys ∷ polyss) (c ∷ cs) v xi t =
      let lambda = S.draw t in
      let C = check S polys xi (batched F v lambda) one (S.drawn t) in
      let t₁ = Gkr.observe_layer_claims F S c C.log in
      let mu = S.draw t₁ in
      let round = length xi in
      let counts = eqb (length polys) round in
      let expected = RoundSum.cross K lambda c * C.eq in
      let holds = same expected C.claim in
      let late = subround_count round round (length polys) (to (S.drawn t)) in
      let after : R → T.Log → Gkr.Verdict F T = λ x u. Gkr.rounds F T polyss cs (reduce c x) (x ∷ C.point) u in
      let body : R → T.Log → Sumcheck.Checked F T → Gkr.Verdict F T = λ x u D.
      let u₁ = Gkr.observe_layer_claims F T c D.log in
      cond counts
      (cond (same (RoundSum.cross K x c * D.eq) D.claim) (Gkr.rounds F T polyss cs (reduce c (T.draw u₁)) (T.draw u₁ ∷ D.point) (T.drawn u₁)) (layer_check round (RoundSum.cross K x c * D.eq) D.claim u₁))
      (subround_count round round (length polys) u) in
      let around : Gkr.Verdict F T → Gkr.Verdict F T = λ w.
      cond counts (cond holds w (layer_check round expected C.claim (to t₁))) late in
      ap₂ (λ x u. body x u (check T polys xi (batched F v x) one u)) (sym (draws t)) (sym (drawns t))
      ∙ ap (body lambda (to (S.drawn t))) (check_to polys xi (batched F v lambda) one (S.drawn t))
      ∙ ap (λ u. cond counts (cond holds (after (T.draw u) (T.drawn u)) (layer_check round expected C.claim u)) late) (claims_to c C.log)
      ∙ ap₂ (λ x u. around (after x u)) (sym (draws t₁)) (sym (drawns t₁))
      ∙ ap around (rounds_to polyss cs (reduce c mu) (mu ∷ C.point) (S.drawn t₁))
      ∙ carried_tests counts holds (Gkr.rounds F S polyss cs (reduce c mu) (mu ∷ C.point) (S.drawn t₁)) (layer_check round expected C.claim t₁) (subround_count round round (length polys) (S.drawn t))

  root_to : (q0 : R) (c : Claims R) (cs : List (Claims R)) (polyss : List (List (Cubic R))) (t : S.Log) → Gkr.root F T q0 c cs polyss (to t) ≡ carried (Gkr.root F S q0 c cs polyss t)
  unfolding Gkr.root
  root_to q0 c cs polyss t =
      let t₁ = Gkr.observe_layer_claims F S c (S.observe q0 t) in
      let mu = S.draw t₁ in
      let after : R → T.Log → Gkr.Verdict F T = λ x u. Gkr.rounds F T polyss cs (reduce c x) (x ∷ []) u in
      let around : Gkr.Verdict F T → T.Log → Gkr.Verdict F T = λ w u.
      cond (same (sum c).p nil) (cond (same (sum c).q q0) w (root_check q0 (sum c).q u)) (zero_check (sum c).p u) in
      ap (λ u. around (after (T.draw u) (T.drawn u)) u) (ap (Gkr.observe_layer_claims F T c) (sym (observes q0 t)) ∙ claims_to c (S.observe q0 t))
      ∙ ap₂ (λ x u. around (after x u) (to t₁)) (sym (draws t₁)) (sym (drawns t₁))
      ∙ ap (λ w. around w (to t₁)) (rounds_to polyss cs (reduce c mu) (mu ∷ []) (S.drawn t₁))
      ∙ carried_tests (same (sum c).p nil) (same (sum c).q q0) (Gkr.rounds F S polyss cs (reduce c mu) (mu ∷ []) (S.drawn t₁)) (root_check q0 (sum c).q t₁) (zero_check (sum c).p t₁)

  counted_to : (m : ℕ) (q0 : R) (cs : List (Claims R)) (polyss : List (List (Cubic R))) (t : S.Log) → Gkr.counted F T m q0 cs polyss (to t) ≡ carried (Gkr.counted F S m q0 cs polyss t)
  unfolding Gkr.counted
  counted_to m q0 [] polyss t = refl
  counted_to m q0 (c ∷ cs) polyss t =
      ap (λ w. cond (eqb (length cs) m) (cond (eqb (length polyss) m) w (poly_count m (length polyss))) (layer_count (suc m) (suc (length cs)))) (root_to q0 c cs polyss t)
      ∙ carried_tests (eqb (length cs) m) (eqb (length polyss) m) (Gkr.root F S q0 c cs polyss t) (poly_count m (length polyss)) (layer_count (suc m) (suc (length cs)))

  -- THE SAME VERDICT
  pub verify_to : (m : ℕ) (π : Proof R) (t : S.Log) → Gkr.verify_gkr F T (suc m) π (to t) ≡ carried (Gkr.verify_gkr F S (suc m) π t)
  unfolding Gkr.verify_gkr
  verify_to m π t = counted_to m π.q0 π.claims π.polys t

  pub carried_accepts : (f : ℕ → Frac R) (w : Gkr.Verdict F S) → Accepts F S f w → Accepts F T f (carried w)
  carried_accepts f (accepted v xi t) h = h
  carried_accepts f zero_rounds h = h
  carried_accepts f (layer_count a b) h = h
  carried_accepts f (poly_count a b) h = h
  carried_accepts f (zero_check a t) h = h
  carried_accepts f (root_check a b t) h = h
  carried_accepts f (subround_count a b c t) h = h
  carried_accepts f (layer_check a b c t) h = h
