-- The theorem: an honest proof of a sum of zero is accepted, with the true claims; a proof of another sum is turned away with that sum.
-- Assumes nothing.
use Rattle.std.specs.Prelude.{◌≡◌, Bool, true, cond, length, eqb}
use Rattle.std.proofs.Math.Path.{refl, sym, ap, subst}
use Rattle.std.proofs.Common.{◌∙◌, ap₂, eq-eqb}
use Rattle.std.proofs.Math.Bool.{false}
use mathlib.Core.List.{List, [], ◌∷◌}
use Prim.Native.Nat.{ℕ, zero, suc}
use Rattle.ring.specs.Field.{Field}
use Rattle.ring.specs.RingLaws
use Rattle.multilinear.specs.Table
use Rattle.multilinear.specs.RoundSum
use Rattle.multilinear.specs.RoundSum.{Claims}
use Rattle.multilinear.proofs.RoundSumLaws
use Rattle.gkr.specs.Run.{Transcript, Frac, Cubic, Proof}
use Rattle.gkr.specs.Tree
use Rattle.gkr.specs.TreeLaws
use Rattle.gkr.specs.Sumcheck
use Rattle.gkr.specs.SumcheckLaws
use Rattle.gkr.specs.Gkr
use Rattle.gkr.proofs.Count
use Rattle.gkr.specs.Tests.{pass, fail}
use Rattle.gkr.specs.Gkr.{done, non_zero_root_sum, accepted, zero_check, subround_count, layer_check}

module _ (F : Field) (S : Transcript F.ring.carrier) where
  open F use {ring as K, same, same_refl}
  open F.ring use {carrier as R, add as ◌+◌, mul as ◌*◌, nil, one}
  open S use {Log, observe, draw, drawn}

  infixl 65 ◌+◌
  infixl 70 ◌*◌
  abbrev compute_recursive_relations : Claims R → Frac R
  compute_recursive_relations = Tree.compute_recursive_relations K

  abbrev children : (ℕ → Frac R) → ℕ → Claims R
  children = Tree.children K

  abbrev tree : (ℕ → Frac R) → ℕ → ℕ → Frac R
  tree = Tree.tree K

  abbrev value : (ℕ → Frac R) → List R → Frac R
  value = Tree.value K

  abbrev reduce_to_single_evaluation : Claims R → R → Frac R
  reduce_to_single_evaluation = Tree.reduce_to_single_evaluation K

  abbrev Verdict : Type 0
  Verdict = Gkr.Verdict F S

  abbrev observe_layer_claims : Claims R → Log → Log
  observe_layer_claims = Gkr.observe_layer_claims F S

  abbrev send : (ℕ → Frac R) → ℕ → List R → Log → Gkr.Sent F S
  send = Gkr.send F S

  abbrev run : ℕ → (ℕ → Frac R) → Log → Gkr.Proved F S
  run = Gkr.run F S

  abbrev fractional_sumcheck : Bool → ℕ → (ℕ → Frac R) → Log → Gkr.Answer F S
  fractional_sumcheck = Gkr.fractional_sumcheck F S

  abbrev rounds : List (List (Cubic R)) → List (Claims R) → Frac R → List R → Log → Verdict
  rounds = Gkr.rounds F S

  abbrev root : R → Claims R → List (Claims R) → List (List (Cubic R)) → Log → Verdict
  root = Gkr.root F S

  abbrev counted : ℕ → R → List (Claims R) → List (List (Cubic R)) → Log → Verdict
  counted = Gkr.counted F S

  abbrev verify_gkr : ℕ → Proof R → Log → Verdict
  verify_gkr = Gkr.verify_gkr F S

  same_true : (x y : R) → x ≡ y → same x y ≡ true
  same_true x y e = ap (same x) (sym e) ∙ same_refl x

  -- THE HONEST RUN

  -- one round, whose sub-rounds are honest, and then the rest, which ends with v
  honest_round : (g : ℕ → Frac R) (xi : List R) (lambda : R) (t : Log) (P : Sumcheck.Sent F S) (C : Sumcheck.Checked F S)
      → SumcheckLaws.Honest F S (length xi) lambda (children g) P C
      → (polyss : List (List (Cubic R))) (cs : List (Claims R)) (v : Verdict)
      → let t₁ = observe_layer_claims P.last C.log in
      let t₂ = observe_layer_claims P.last P.log in
      let expected = RoundSum.cross K lambda P.last * C.eq in
      rounds polyss cs (value g (draw t₂ ∷ P.point)) (draw t₂ ∷ P.point) (drawn t₂) ≡ v
      → cond (eqb (length P.polys) (length xi))
      (cond (same expected C.claim) (rounds polyss cs (reduce_to_single_evaluation P.last (draw t₁)) (draw t₁ ∷ C.point) (drawn t₁)) (layer_check (length xi) expected C.claim t₁))
      (subround_count (length xi) (length xi) (length P.polys) t)
      ≡ v
  honest_round g xi lambda t P C H polyss cs v rest =
      let t₂ = observe_layer_claims P.last P.log in
      pass _ _ _ (eq-eqb _ _ H.count)
      ∙ pass _ _ _ (same_true _ _ H.holds)
      ∙ ap₂ (λ u pt. let t₁ = observe_layer_claims P.last u in rounds polyss cs (reduce_to_single_evaluation P.last (draw t₁)) (draw t₁ ∷ pt) (drawn t₁)) H.logs H.points
      ∙ ap (λ v. rounds polyss cs v (draw t₂ ∷ P.point) (drawn t₂)) (ap (λ c. reduce_to_single_evaluation c (draw t₂)) H.lasts ∙ TreeLaws.reduce_value K g (draw t₂) P.point)
      ∙ rest

  honest_rounds : (f : ℕ → Frac R) (h : ℕ) (xi : List R) (t : Log) → let P = send f h xi t in
      rounds P.polys P.claims (value (tree f h) xi) xi t ≡ accepted (value f P.point) P.point P.log
  unfolding Gkr.send Gkr.rounds Tree.tree
  honest_rounds f zero xi t = refl
  honest_rounds f (suc h) xi t =
      let P = Sumcheck.send F S (length xi) (draw t) (Table.weight K xi) (children (tree f h)) (drawn t) in
      let t₁ = observe_layer_claims P.last P.log in
      let rest = send f h (draw t₁ ∷ P.point) (drawn t₁) in
      honest_round (tree f h) xi (draw t) (drawn t) P _
      (SumcheckLaws.honest F S xi (draw t) (Table.weight K xi) (children (tree f h)) (drawn t) one _ (λ i y. sym (RingLaws.one_mul K (Table.weight K xi y)) i) (TreeLaws.claim_total K (tree f h) (draw t) xi))
      rest.polys rest.claims _ (honest_rounds f h (draw t₁ ∷ P.point) (drawn t₁))

  right_counts : (m : ℕ) (q0 : R) (c : Claims R) (cs : List (Claims R)) (polyss : List (List (Cubic R))) (t : Log)
      → (length cs ≡ m) × (length polyss ≡ m) → counted m q0 (c ∷ cs) polyss t ≡ root q0 c cs polyss t
  unfolding Gkr.counted
  right_counts m q0 c cs polyss t n = pass _ _ _ (eq-eqb _ _ n.0) ∙ pass _ _ _ (eq-eqb _ _ n.1)

  -- where the test for zero passes, the prover is done and the verifier accepts
  zero_accepted : (m : ℕ) (f : ℕ → Frac R) (t : Log) → same (tree f (suc m) 0).p nil ≡ true → let P = run m f t in
      (fractional_sumcheck true m f t ≡ done P) × (verify_gkr (suc m) P.proof t ≡ accepted (value f P.point) P.point P.log)
  unfolding Gkr.run Gkr.fractional_sumcheck Gkr.verify_gkr Gkr.root Tree.tree
  zero_accepted m f t h =
      let g = tree f m in
      let t₁ = observe_layer_claims (children g 0) (observe (compute_recursive_relations (children g 0)).q t) in
      let xi = draw t₁ ∷ [] in
      let P = send f m xi (drawn t₁) in (
        pass _ _ _ h,
        right_counts m _ _ P.claims P.polys t (Count.send_counts F S f m xi (drawn t₁))
            ∙ pass _ _ _ h
            ∙ pass _ _ _ (same_refl _)
            ∙ ap (λ v. rounds P.polys P.claims v xi (drawn t₁)) (ap (λ c. reduce_to_single_evaluation c (draw t₁)) (sym (RoundSumLaws.values_nil F (children g))) ∙ TreeLaws.reduce_value K g (draw t₁) [])
            ∙ honest_rounds f m xi (drawn t₁),
      )

  -- THE THEOREM. Over n = suc m rounds, for all rows f, any source of challenges and any log t: if the root numerator is zero, the prover with zero asserted
  -- is done, and the verifier, given its proof, n and the same source, accepts: the claims are the values of both columns at the prover's point, the plain
  -- sums over all rows; point and log are the prover's.
  pub honest : (m : ℕ) (f : ℕ → Frac R) (t : Log) → (tree f (suc m) 0).p ≡ nil → let P = run m f t in
      (fractional_sumcheck true m f t ≡ done P) × (verify_gkr (suc m) P.proof t ≡ accepted (value f P.point) P.point P.log)
  honest m f t h = zero_accepted m f t (same_true _ _ h)

  Refused : Gkr.Answer F S → Type 0
  Refused (done P) = ⊥
  Refused non_zero_root_sum = Unit

  -- so whatever the prover with zero asserted is done with, the verifier accepts
  pub done_accepted : (m : ℕ) (f : ℕ → Frac R) (t : Log) (P : Gkr.Proved F S) → fractional_sumcheck true m f t ≡ done P
      → verify_gkr (suc m) P.proof t ≡ accepted (value f P.point) P.point P.log
  unfolding Gkr.fractional_sumcheck Refused
  done_accepted m f t P e = go (same (tree f (suc m) 0).p nil) refl
    where
      Q : Gkr.Proved F S → Type 0
      Q P = verify_gkr (suc m) P.proof t ≡ accepted (value f P.point) P.point P.log

      go : (b : Bool) → same (tree f (suc m) 0).p nil ≡ b → Q P
      go true h = subst Q (sym (Count.done_run F S true m f t P e)) (zero_accepted m f t h).1
      go false h = absurd (subst Refused (sym (fail _ _ _ h) ∙ e) tt)

  -- ANOTHER SUM

  -- with zero asserted it is refused
  pub refused : (m : ℕ) (f : ℕ → Frac R) (t : Log) → same (tree f (suc m) 0).p nil ≡ false → fractional_sumcheck true m f t ≡ non_zero_root_sum
  unfolding Gkr.fractional_sumcheck
  refused m f t h = fail _ _ _ h

  -- a proof of it, made where zero is not asserted, is turned away with 16 and that sum's numerator, after q0 and the claims of layer 0
  pub not_zero : (m : ℕ) (f : ℕ → Frac R) (t u : Log) → let s = tree f (suc m) 0 in same s.p nil ≡ false
      → verify_gkr (suc m) (run m f t).proof u ≡ zero_check s.p (observe_layer_claims (children (tree f m) 0) (observe s.q u))
  unfolding Gkr.run Gkr.verify_gkr Gkr.root Tree.tree
  not_zero m f t u h = right_counts m _ _ _ _ u (Count.send_counts F S f m _ _) ∙ fail _ _ _ h

  pub turned_away : (m : ℕ) (f : ℕ → Frac R) (t u : Log) (P : Gkr.Proved F S) → fractional_sumcheck false m f t ≡ done P → same P.sum.p nil ≡ false
      → verify_gkr (suc m) P.proof u ≡ zero_check P.sum.p (observe_layer_claims (children (tree f m) 0) (observe P.sum.q u))
  unfolding Gkr.run
  turned_away m f t u P e =
      subst (λ Q. same Q.sum.p nil ≡ false → verify_gkr (suc m) Q.proof u ≡ zero_check Q.sum.p (observe_layer_claims (children (tree f m) 0) (observe Q.sum.q u)))
      (sym (Count.done_run F S false m f t P e)) (not_zero m f _ u)
