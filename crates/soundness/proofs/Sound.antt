-- SOUNDNESS: whatever the proof and whatever the transcript, if the verifier accepts with claims that are true of the rows f, then the sum of these rows
-- is zero over the denominator that the proof names, or one of the challenges was bad.
-- Assumes nothing.
use Rattle.std.specs.Prelude.{ℕ, suc, ◌≡◌, refl, Bool, true, false, cond, ◌⊎◌, eqb}
use Rattle.std.proofs.Math.Path.{sym, ap, subst, fun_ext}
use Rattle.std.proofs.Common.{◌∙◌, suc-ne-zero}
use Rattle.std.proofs.Math.Logic.{inl}
use mathlib.Core.List.{List, [], ◌∷◌}
use Rattle.std.proofs.Math.Nat.{suc_inj}
use Rattle.std.proofs.Math.ListN.{length}
use borrow.Author.Tests.{eqb-true}
use Rattle.ring.specs.RingLaws
use Rattle.ring.specs.Field.{Field}
use Rattle.multilinear.specs.Forms
use Rattle.multilinear.specs.Table
use Rattle.multilinear.proofs.TableLaws
use Rattle.multilinear.specs.RoundSum
use Rattle.multilinear.specs.RoundSum.{Claims}
use Rattle.multilinear.proofs.RoundSumLaws
use Rattle.gkr.specs.Run.{Transcript, Frac, Cubic, Proof}
use Rattle.gkr.specs.Tree
use Rattle.gkr.specs.TreeLaws
use Rattle.gkr.specs.Sumcheck
use Rattle.gkr.specs.Gkr
use Rattle.domain.specs.Field.{Domain}
use Rattle.soundness.specs.Few.{Some}
use Rattle.soundness.specs.FewLaws.{meet, doubt, onto}
use Rattle.soundness.specs.Decide.{decide_frac, decide_claims}
use Rattle.soundness.specs.Steps.{batched, next_claim, bound, bound_claims, true_claims, true_children, true_sum}
use Rattle.soundness.specs.Challenges.{subround_challenges, layer_challenges, root_challenges, Accepts, hit, Unlucky, RootIs}

module _ (F : Field) (S : Transcript F.ring.carrier) where
  open F use {ring as K, same}
  open F.ring use {carrier as R, mul as ◌*◌, nil, one}
  open S use {Log, observe, draw, drawn}

  infixl 70 ◌*◌
  abbrev children : (ℕ → Frac R) → ℕ → ℕ → Claims R
  children f h = Tree.children K (Tree.tree K f h)

  abbrev check : List (Cubic R) → List R → R → R → Log → Sumcheck.Checked F S
  check = Sumcheck.verify_gkr_sumcheck F S

  abbrev reduce : Claims R → R → Frac R
  reduce = Tree.reduce_to_single_evaluation K

  -- a test that stood in the way was passed
  pub passed : (f : ℕ → Frac R) (b : Bool) (x y : Gkr.Verdict F S) → ¬ Accepts F S f y → Accepts F S f (cond b x y) → (b ≡ true) × Accepts F S f x
  passed f true x y n h = (refl, h)
  passed f false x y n h = absurd (n h)

  -- the column eq before the first sub-round
  pub whole_eq : (xi : List R) → Table.weight K xi ≡ (λ y. one * Table.weight K xi y)
  whole_eq xi = λ i y. sym (RingLaws.one_mul K (Table.weight K xi y)) i

  module _ (D : Domain F.ring) (exact : (x y : R) → same x y ≡ true → x ≡ y) where
    -- ONE LAYER'S SUMCHECK

    sound_check : (f : ℕ → Frac R) (h : ℕ) (xi : List R) (lambda : R) (rhos : List R) (polys : List (Cubic R)) (left : List R) (claim a : R) (t : Log)
        → length polys ≡ length left
        → bound F (Table.weight K xi) rhos ≡ (λ y. a * Table.weight K left y)
        → let C = check polys left claim a t in
        C.claim ≡ RoundSum.cross K lambda (RoundSum.values K (bound_claims F (children f h) rhos) C.point) * C.eq
        → (claim ≡ true_sum F f h (length left) xi lambda rhos) ⊎ Some (hit F S f) (subround_challenges F S h xi lambda rhos polys left claim t)
    unfolding Sumcheck.verify_gkr_sumcheck subround_challenges
    sound_check f h xi lambda rhos [] [] claim a t n e g =
        let pq = bound_claims F (children f h) rhos in
        inl (g ∙ ap (λ c. RoundSum.cross K lambda c * a) (RoundSumLaws.values_nil F pq) ∙ sym (RoundSumLaws.claim_last F lambda _ pq a e))
    sound_check f h xi lambda rhos [] (x ∷ left) claim a t n e g = absurd (suc-ne-zero _ (sym n))
    sound_check f h xi lambda rhos (s ∷ polys) [] claim a t n e g = absurd (suc-ne-zero _ n)
    sound_check f h xi lambda rhos (s ∷ polys) (x ∷ left) claim a t n e g =
        let t₁ = Sumcheck.observe_cubic F S s t in
        let rho = draw t₁ in
        let pq = bound_claims F (children f h) rhos in
        let C = check polys left (next_claim F claim s rho) (a * Forms.agree K x rho) (drawn t₁) in
        doubt (D.decide claim (true_sum F f h (suc (length left)) xi lambda rhos))
        (sound_check f h xi lambda (rho ∷ rhos) polys left (next_claim F claim s rho) (a * Forms.agree K x rho) (drawn t₁) (suc_inj n)
        (ap (λ d. Table.fold K d rho) e ∙ fun_ext (TableLaws.fold_weight K a x rho left))
        (g ∙ ap (λ c. RoundSum.cross K lambda c * C.eq) (RoundSumLaws.values_fold F pq rho C.point)))

    -- THE LAYERS

    sound_layers : (f : ℕ → Frac R) (polyss : List (List (Cubic R))) (cs : List (Claims R)) (v : Frac R) (xi : List R) (t : Log)
        → length polyss ≡ length cs
        → Accepts F S f (Gkr.rounds F S polyss cs v xi t)
        → (v ≡ true_claims F f (length polyss) xi) ⊎ Some (hit F S f) (layer_challenges F S polyss cs v xi t)
    unfolding Gkr.rounds layer_challenges Tree.tree
    sound_layers f [] [] v xi t n g = inl g
    sound_layers f [] (c ∷ cs) v xi t n g = absurd (suc-ne-zero _ (sym n))
    sound_layers f (polys ∷ polyss) [] v xi t n g = absurd (suc-ne-zero _ n)
    sound_layers f (polys ∷ polyss) (c ∷ cs) v xi t n g =
        let h = length polyss in
        let lambda = draw t in
        let C = check polys xi (batched F v lambda) one (drawn t) in
        let t₂ = Gkr.observe_layer_claims F S c C.log in
        let mu = draw t₂ in
        let counts = passed f (eqb (length polys) (length xi)) _ _ (λ x. x) g in
        let holds = passed f (same (RoundSum.cross K lambda c * C.eq) C.claim) _ _ (λ x. x) counts.1 in
        let rest = sound_layers f polyss cs (reduce c mu) (mu ∷ C.point) (drawn t₂) (suc_inj n) holds.1 in
        doubt (decide_frac K D v (true_claims F f (suc h) xi))
        (meet (hit F S f) (subround_challenges F S h xi lambda [] polys xi (batched F v lambda) (drawn t)) _
        (doubt (decide_claims K D c (true_children F f h C.point)) (onto rest (λ e. e ∙ sym (TreeLaws.reduce_value K (Tree.tree K f h) mu C.point))))
        (λ e. onto
        (sound_check f h xi lambda [] polys xi (batched F v lambda) one (drawn t) (eqb-true _ _ counts.0) (whole_eq xi)
        (sym (exact _ _ holds.0) ∙ ap (λ c. RoundSum.cross K lambda c * C.eq) e))
        (λ k. k ∙ sym (TreeLaws.claim_total K (Tree.tree K f h) lambda xi))))

    sound_root : (f : ℕ → Frac R) (q0 : R) (c : Claims R) (cs : List (Claims R)) (polyss : List (List (Cubic R))) (t : Log)
        → length polyss ≡ length cs
        → Accepts F S f (Gkr.root F S q0 c cs polyss t)
        → RootIs F f (suc (length polyss)) q0 ⊎ Some (hit F S f) (root_challenges F S q0 (c ∷ cs) polyss t)
    unfolding Gkr.root root_challenges Tree.tree
    sound_root f q0 c cs polyss t n g =
        let h = length polyss in
        let t₁ = Gkr.observe_layer_claims F S c (observe q0 t) in
        let mu = draw t₁ in
        let zero = passed f (same (Tree.compute_recursive_relations K c).p nil) _ _ (λ x. x) g in
        let denominator = passed f (same (Tree.compute_recursive_relations K c).q q0) _ _ (λ x. x) zero.1 in
        onto
        (doubt (decide_claims K D c (true_children F f h []))
        (onto (sound_layers f polyss cs (reduce c mu) (mu ∷ []) (drawn t₁) n denominator.1) (λ e. e ∙ sym (TreeLaws.reduce_value K (Tree.tree K f h) mu []))))
        (λ e. let k = sym (e ∙ RoundSumLaws.values_nil F (children f h)) in
        (ap (λ x. (Tree.compute_recursive_relations K x).p) k ∙ exact _ _ zero.0, ap (λ x. (Tree.compute_recursive_relations K x).q) k ∙ exact _ _ denominator.0))

    sound_counted : (f : ℕ → Frac R) (m : ℕ) (q0 : R) (cs : List (Claims R)) (polyss : List (List (Cubic R))) (t : Log)
        → Accepts F S f (Gkr.counted F S m q0 cs polyss t)
        → RootIs F f (suc m) q0 ⊎ Some (hit F S f) (root_challenges F S q0 cs polyss t)
    unfolding Gkr.counted
    sound_counted f m q0 [] polyss t g = absurd g
    sound_counted f m q0 (c ∷ cs) polyss t g =
        let claims = passed f (eqb (length cs) m) _ _ (λ x. x) g in
        let polys = passed f (eqb (length polyss) m) _ _ (λ x. x) claims.1 in
        let k = eqb-true _ _ polys.0 in
        subst (λ j. RootIs F f (suc j) q0 ⊎ Some (hit F S f) (root_challenges F S q0 (c ∷ cs) polyss t)) k
        (sound_root f q0 c cs polyss t (k ∙ sym (eqb-true _ _ claims.0)) polys.1)

    -- THE THEOREM, for every transcript, every proof and every log
    pub sound : (f : ℕ → Frac R) (m : ℕ) (π : Proof R) (t : Log)
        → Accepts F S f (Gkr.verify_gkr F S (suc m) π t)
        → RootIs F f (suc m) π.q0 ⊎ Unlucky F S f π t
    unfolding Gkr.verify_gkr
    sound f m π t g = sound_counted f m π.q0 π.claims π.polys t g
