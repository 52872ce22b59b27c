-- Two sources give the same run, but for a challenge in which they differ. So the verifier reads its source only for the challenges that it counts.
-- Assumes nothing.
use Rattle.std.specs.Prelude.{◌≡◌, ◌⊎◌, Bool, true, false, cond}
use Rattle.std.proofs.Math.Path.{refl, ap}
use Rattle.std.proofs.Common.{sym, ◌∙◌, subst, arith}
use Rattle.std.proofs.Math.Logic.{inl, inr, ⊎_elim}
use mathlib.Core.List.{List, [], ◌∷◌}
use Prim.Native.Nat.{ℕ, zero, suc, ◌≤◌, ◌<◌}
use Rattle.std.proofs.Math.ListN.{length}
use Rattle.std.proofs.Math.Dec.{eqb}
use Rattle.ring.specs.Field.{Field}
use Rattle.multilinear.specs.Forms
use Rattle.multilinear.specs.Interpolate
use Rattle.multilinear.specs.RoundSum
use Rattle.multilinear.specs.RoundSum.{Claims}
use Rattle.gkr.specs.Run.{Transcript, Frac, Cubic, Proof}
use Rattle.gkr.specs.Tree
use Rattle.gkr.specs.Sumcheck
use Rattle.gkr.specs.Gkr
use Rattle.gkr.specs.Gkr.{accepted, zero_rounds, layer_count, poly_count, zero_check, root_check, subround_count, layer_check}
use Rattle.gkr.specs.Transcripts.{Words, Source, drawing}
use Rattle.gkr.proofs.Steps

module _ (F : Field) (words : F.ring.carrier → List ℕ) (s s' : Source F.ring.carrier) where
  abbrev A : Type 0
  A = F.ring.carrier

  abbrev S : Transcript A
  S = drawing words s

  abbrev S' : Transcript A
  S' = drawing words s'

  -- a verdict over the one source as one over the other
  abbrev pub recast : Gkr.Verdict F S → Gkr.Verdict F S'
  recast (accepted v xi u) = accepted v xi u
  recast zero_rounds = zero_rounds
  recast (layer_count expected actual) = layer_count expected actual
  recast (poly_count expected actual) = poly_count expected actual
  recast (zero_check actual u) = zero_check actual u
  recast (root_check expected actual u) = root_check expected actual u
  recast (subround_count round expected actual u) = subround_count round expected actual u
  recast (layer_check round expected actual u) = layer_check round expected actual u

  -- the same verdict: the same number, with equal claims, point, fields and log
  abbrev pub Same : Gkr.Verdict F S → Gkr.Verdict F S' → Type 0
  Same v w = recast v ≡ w

  -- so the same log is left
  pub same_log : (t : Words) (v : Gkr.Verdict F S) (w : Gkr.Verdict F S') → Same v w → Gkr.log_after F S t v ≡ Gkr.log_after F S' t w
  same_log t v w e = go v ∙ ap (Gkr.log_after F S' t) e
    where
      go : (v : Gkr.Verdict F S) → Gkr.log_after F S t v ≡ Gkr.log_after F S' t (recast v)
      go (accepted v xi u) = refl
      go zero_rounds = refl
      go (layer_count expected actual) = refl
      go (poly_count expected actual) = refl
      go (zero_check actual u) = refl
      go (root_check expected actual u) = refl
      go (subround_count round expected actual u) = refl
      go (layer_check round expected actual u) = refl

  abbrev recast_checked : Sumcheck.Checked F S → Sumcheck.Checked F S'
  recast_checked C = record { claim = C.claim; point = C.point; eq = C.eq; log = C.log }

  -- A way for each run: where a challenge is sampled on both ways, the sources agree, or Q.
  module _ (W : Steps.Way F words s) (W' : Steps.Way F words s') (Q : Type 0) (agree : (t : Words) → W.On (S.drawn t) → W'.On (S'.drawn t) → (s t ≡ s' t) ⊎ Q) where
    abbrev Within : (t : Words) → Gkr.Verdict F S → Type 0
    Within = Steps.Within F words s W

    abbrev Within' : (t : Words) → Gkr.Verdict F S' → Type 0
    Within' = Steps.Within F words s' W'

    -- with logs left on their ways, the two are the same, or Q
    abbrev Alike : (t : Words) → Gkr.Verdict F S → Gkr.Verdict F S' → Type 0
    Alike t v v' = Within t v → Within' t v' → Same v v' ⊎ Q

    test : (t₀ : Words) (b : Bool) (v w : Gkr.Verdict F S) (v' w' : Gkr.Verdict F S') → Alike t₀ v v' → Alike t₀ w w' → Alike t₀ (cond b v w) (cond b v' w')
    test t₀ true v w v' w' f g = f
    test t₀ false v w v' w' f g = g

    -- a challenge x, then f or f' with it
    sample : (t₀ t : Words) (f : A → Gkr.Verdict F S) (f' : A → Gkr.Verdict F S') → (Within t₀ (f (s t)) → W.On (S.drawn t)) → (Within' t₀ (f' (s' t)) → W'.On (S'.drawn t))
        → Alike t₀ (f (s t)) (f' (s t)) → Alike t₀ (f (s t)) (f' (s' t))
    sample t₀ t f f' back back' same h h' =
        ⊎_elim (λ e. ⊎_elim (λ d. inl (d ∙ ap f' e)) inr (same h (subst (λ x. Within' t₀ (f' x)) (sym e) h'))) inr (agree t (back h) (back' h'))

    check_same : (polys : List (Cubic A)) (xi : List A) (claim eq : A) (t : Words)
        → let C = Sumcheck.verify_gkr_sumcheck F S polys xi claim eq t in
        let C' = Sumcheck.verify_gkr_sumcheck F S' polys xi claim eq t in W.On C.log → W'.On C'.log → (recast_checked C ≡ C') ⊎ Q
    unfolding Sumcheck.verify_gkr_sumcheck
    check_same [] xi claim eq t h h' = inl refl
    check_same (m ∷ polys) [] claim eq t h h' = inl refl
    check_same (m ∷ polys) (x ∷ xi) claim eq t h h' =
        let t₁ = Sumcheck.observe_cubic F S m t in
        let next : A → A = λ rho. Interpolate.cubic F (Forms.◌-◌ F.ring claim m.at1) m.at1 m.at2 m.at3 rho in
        let eq₁ : A → A = λ rho. F.ring.mul eq (Forms.agree F.ring x rho) in
        let turn = Steps.sub_round F words s' m polys x xi claim eq t₁ in
        ⊎_elim
        (λ e. ⊎_elim
        (λ d. inl (ap (λ C. record { claim = C.claim; point = s t₁ ∷ C.point; eq = C.eq; log = C.log }) d ∙ ap turn e))
        inr
        (check_same polys xi (next (s t₁)) (eq₁ (s t₁)) (S.drawn t₁) h (subst (λ rho. W'.On (turn rho).log) (sym e) h')))
        inr
        (agree t₁ (Steps.check_back F words s W polys xi (next (s t₁)) (eq₁ (s t₁)) (S.drawn t₁) h) (Steps.check_back F words s' W' polys xi (next (s' t₁)) (eq₁ (s' t₁)) (S'.drawn t₁) h'))

    -- the rounds over these messages are alike from any claims, point and log
    abbrev Followed : (t₀ : Words) (polyss : List (List (Cubic A))) (cs : List (Claims A)) → Type 0
    Followed t₀ polyss cs = (v : Frac A) (xi : List A) (t : Words) → Alike t₀ (Gkr.rounds F S polyss cs v xi t) (Gkr.rounds F S' polyss cs v xi t)

    -- so is what follows a challenge mu
    onward_same : (t₀ : Words) (polyss : List (List (Cubic A))) (cs : List (Claims A)) (c : Claims A) (rhos : List A) (t : Words)
        → Followed t₀ polyss cs → Alike t₀ (Steps.onward F words s polyss cs c rhos t (s t)) (Steps.onward F words s' polyss cs c rhos t (s' t))
    onward_same t₀ polyss cs c rhos t ih =
        let value : A → Frac A = Tree.reduce_to_single_evaluation F.ring c in
        sample t₀ t (Steps.onward F words s polyss cs c rhos t) (Steps.onward F words s' polyss cs c rhos t)
        (Steps.rounds_back F words s W t₀ polyss cs (value (s t)) (s t ∷ rhos) (S.drawn t)) (Steps.rounds_back F words s' W' t₀ polyss cs (value (s' t)) (s' t ∷ rhos) (S'.drawn t))
        (ih (value (s t)) (s t ∷ rhos) (S.drawn t))

    layer_same : (t₀ : Words) (polyss : List (List (Cubic A))) (cs : List (Claims A)) (c : Claims A) (round : ℕ) (lambda : A) (C : Sumcheck.Checked F S)
        → Followed t₀ polyss cs → Alike t₀ (Steps.layer F words s polyss cs c round lambda C) (Steps.layer F words s' polyss cs c round lambda (recast_checked C))
    layer_same t₀ polyss cs c round lambda C ih =
        let t₂ = Gkr.observe_layer_claims F S c C.log in
        let expected = F.ring.mul (RoundSum.cross F.ring lambda c) C.eq in
        test t₀ (F.same expected C.claim) (Steps.onward F words s polyss cs c C.point t₂ (s t₂)) (layer_check round expected C.claim t₂)
        (Steps.onward F words s' polyss cs c C.point t₂ (s' t₂)) (layer_check round expected C.claim t₂)
        (onward_same t₀ polyss cs c C.point t₂ ih)
        (λ _ _. inl refl)

    -- a round of which the sub-rounds are the same, or Q
    joined : (t₀ : Words) (f : Sumcheck.Checked F S' → Gkr.Verdict F S') (v : Gkr.Verdict F S) (C : Sumcheck.Checked F S) (C' : Sumcheck.Checked F S')
        → Alike t₀ v (f (recast_checked C)) → (recast_checked C ≡ C') ⊎ Q → Alike t₀ v (f C')
    joined t₀ f v C C' same (inl e) h h' = ⊎_elim (λ d. inl (d ∙ ap f e)) inr (same h (subst (λ D. Within' t₀ (f D)) (sym e) h'))
    joined t₀ f v C C' same (inr q) h h' = inr q

    full_same : (t₀ : Words) (polys : List (Cubic A)) (polyss : List (List (Cubic A))) (cs : List (Claims A)) (c : Claims A) (v : Frac A) (xi : List A) (t : Words)
        → Followed t₀ polyss cs → Alike t₀ (Steps.full F words s polys polyss cs c v xi t (s t)) (Steps.full F words s' polys polyss cs c v xi t (s' t))
    full_same t₀ polys polyss cs c v xi t ih =
        let claim : A → A = λ lambda. F.ring.add v.p (F.ring.mul lambda v.q) in
        let C = Steps.sub_rounds F words s polys v xi t in
        let C' = Steps.sub_rounds F words s' polys v xi t in
        let late = Steps.layer_back F words s W t₀ polyss cs c (length xi) (s t) (C (s t)) in
        sample t₀ t (Steps.full F words s polys polyss cs c v xi t) (Steps.full F words s' polys polyss cs c v xi t)
        (λ h. Steps.check_back F words s W polys xi (claim (s t)) F.ring.one (S.drawn t) (late h))
        (λ h. Steps.check_back F words s' W' polys xi (claim (s' t)) F.ring.one (S'.drawn t) (Steps.layer_back F words s' W' t₀ polyss cs c (length xi) (s' t) (C' (s' t)) h))
        (λ h h'. joined t₀ (Steps.layer F words s' polyss cs c (length xi) (s t)) (Steps.layer F words s polyss cs c (length xi) (s t) (C (s t))) (C (s t)) (C' (s t))
        (layer_same t₀ polyss cs c (length xi) (s t) (C (s t)) ih)
        (check_same polys xi (claim (s t)) F.ring.one (S.drawn t) (late h) (Steps.layer_back F words s' W' t₀ polyss cs c (length xi) (s t) (C' (s t)) h'))
        h h')

    rounds_same : (t₀ : Words) (polyss : List (List (Cubic A))) (cs : List (Claims A)) → Followed t₀ polyss cs
    unfolding Gkr.rounds
    rounds_same t₀ [] cs v xi t h h' = inl refl
    rounds_same t₀ (polys ∷ polyss) [] v xi t h h' = inl refl
    rounds_same t₀ (polys ∷ polyss) (c ∷ cs) v xi t h h' =
        let r = length xi in
        let turned : A → Gkr.Verdict F S = λ x. subround_count r r (length polys) (Steps.after F words s t x) in
        let turned' : A → Gkr.Verdict F S' = λ x. subround_count r r (length polys) (Steps.after F words s' t x) in
        test t₀ (eqb (length polys) r) (Steps.full F words s polys polyss cs c v xi t (s t)) (turned (s t)) (Steps.full F words s' polys polyss cs c v xi t (s' t)) (turned' (s' t))
        (full_same t₀ polys polyss cs c v xi t (rounds_same t₀ polyss cs))
        (sample t₀ t turned turned' (λ o. o) (λ o. o) (λ _ _. inl refl))
        h h'

    root_same : (t₀ : Words) (q0 : A) (c : Claims A) (cs : List (Claims A)) (polyss : List (List (Cubic A))) (t : Words)
        → Alike t₀ (Gkr.root F S q0 c cs polyss t) (Gkr.root F S' q0 c cs polyss t)
    unfolding Gkr.root
    root_same t₀ q0 c cs polyss t =
        let t₁ = Gkr.observe_layer_claims F S c (S.observe q0 t) in
        let sum = Tree.compute_recursive_relations F.ring c in
        let next = Steps.onward F words s polyss cs c [] t₁ (s t₁) in
        let next' = Steps.onward F words s' polyss cs c [] t₁ (s' t₁) in
        let b = F.same sum.q q0 in
        test t₀ (F.same sum.p F.ring.nil) (cond b next (root_check q0 sum.q t₁)) (zero_check sum.p t₁) (cond b next' (root_check q0 sum.q t₁)) (zero_check sum.p t₁)
        (test t₀ b next (root_check q0 sum.q t₁) next' (root_check q0 sum.q t₁) (onward_same t₀ polyss cs c [] t₁ (rounds_same t₀ polyss cs)) (λ _ _. inl refl))
        (λ _ _. inl refl)

    counted_same : (m : ℕ) (q0 : A) (claims : List (Claims A)) (polyss : List (List (Cubic A))) (t : Words)
        → Alike t (Gkr.counted F S m q0 claims polyss t) (Gkr.counted F S' m q0 claims polyss t)
    unfolding Gkr.counted
    counted_same m q0 [] polyss t = λ _ _. inl refl
    counted_same m q0 (c ∷ cs) polyss t =
        let b = eqb (length polyss) m in
        let n = length polyss in
        let l = suc (length cs) in
        let run = Gkr.root F S q0 c cs polyss t in
        let run' = Gkr.root F S' q0 c cs polyss t in
        test t (eqb (length cs) m) (cond b run (poly_count m n)) (layer_count (suc m) l) (cond b run' (poly_count m n)) (layer_count (suc m) l)
        (test t b run (poly_count m n) run' (poly_count m n) (root_same t q0 c cs polyss t) (λ _ _. inl refl))
        (λ _ _. inl refl)

    pub same_or : (n : ℕ) (π : Proof A) (t : Words) → Alike t (Gkr.verify_gkr F S n π t) (Gkr.verify_gkr F S' n π t)
    unfolding Gkr.verify_gkr
    same_or zero π t = λ _ _. inl refl
    same_or (suc m) π t = counted_same m π.q0 π.claims π.polys t

  -- where the sources agree on the one way, the two are the same
  pub reads_along : (W : Steps.Way F words s) (agree : (t : Words) → W.On (S.drawn t) → s t ≡ s' t) (n : ℕ) (π : Proof A) (t : Words)
      → Steps.Within F words s W t (Gkr.verify_gkr F S n π t) → Same (Gkr.verify_gkr F S n π t) (Gkr.verify_gkr F S' n π t)
  reads_along W agree n π t h =
      let any : Steps.Way F words s' = record { On = λ _. Unit; observed = λ _ _ _. tt; sampled = λ _ _. tt } in
      ⊎_elim (λ e. e) (λ z. absurd z) (same_or W any ⊥ (λ t o _. inl (agree t o)) n π t h tt)

  -- on the way are the logs of no more challenges than the run leaves
  pub reads_only : (n : ℕ) (π : Proof A) (t : Words)
      → ((u : Words) → u.used < (Gkr.log_after F S t (Gkr.verify_gkr F S n π t)).used → s u ≡ s' u)
      → Same (Gkr.verify_gkr F S n π t) (Gkr.verify_gkr F S' n π t)
  reads_only n π t agree =
      let k = (Gkr.log_after F S t (Gkr.verify_gkr F S n π t)).used in
      reads_along (record { On = λ u. u.used ≤ k; observed = λ x u h. h; sampled = λ u h. omega (arith, h) }) agree n π t (omega arith)

-- THREE SOURCES: a verdict that is the same as one that is the same as a third

module _ (F : Field) (words : F.ring.carrier → List ℕ) (s s' s'' : Source F.ring.carrier) where
  pub same_then : (u : Gkr.Verdict F (drawing words s)) (v : Gkr.Verdict F (drawing words s')) (w : Gkr.Verdict F (drawing words s'')) → Same F words s s' u v → Same F words s' s'' v w → Same F words s s'' u w
  same_then u v w e d = go u ∙ ap (recast F words s' s'') e ∙ d
    where
      go : (u : Gkr.Verdict F (drawing words s)) → recast F words s s'' u ≡ recast F words s' s'' (recast F words s s' u)
      go (accepted v xi t) = refl
      go zero_rounds = refl
      go (layer_count expected actual) = refl
      go (poly_count expected actual) = refl
      go (zero_check actual t) = refl
      go (root_check expected actual t) = refl
      go (subround_count round expected actual t) = refl
      go (layer_check round expected actual t) = refl
