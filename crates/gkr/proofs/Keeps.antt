-- What every observation and every challenge keeps is kept along a whole run, the prover's and the verifier's.
-- Assumes nothing.
use Rattle.std.specs.Prelude.{Bool, true, false, cond, ◌≡◌, eqb}
use Rattle.std.proofs.Common.{sym, subst}
use mathlib.Core.List.{List, [], ◌∷◌}
use Prim.Native.Nat.{ℕ, zero, suc}
use Rattle.std.proofs.Math.ListN.{length}
use Rattle.ring.specs.Field.{Field}
use Rattle.multilinear.specs.RoundSum
use Rattle.multilinear.specs.RoundSum.{Claims}
use Rattle.gkr.specs.Run.{Transcript, Frac, Cubic, Proof}
use Rattle.gkr.specs.Tree
use Rattle.gkr.specs.Sumcheck
use Rattle.gkr.specs.Gkr
use Rattle.gkr.proofs.Count
use Rattle.gkr.specs.Gkr.{done, root_check, zero_check, layer_check, subround_count, layer_count, poly_count}

module _ (F : Field) (S : Transcript F.ring.carrier) (I : S.Log → Type 0) (more : (x : F.ring.carrier) (t : S.Log) → I t → I (S.observe x t)) (drew : (t : S.Log) → I t → I (S.drawn t)) where
  open F.ring use {carrier as R}
  open S use {Log, observe, draw, drawn}

  claims_keep : (c : Claims R) (t : Log) → I t → I (Gkr.observe_layer_claims F S c t)
  claims_keep c t h = more _ _ (more _ _ (more _ _ (more _ t h)))

  cubic_keep : (s : Cubic R) (t : Log) → I t → I (Sumcheck.observe_cubic F S s t)
  cubic_keep s t h = more _ _ (more _ _ (more _ t h))

  -- THE PROVER

  sub_keep : (k : ℕ) (lambda : R) (eq : ℕ → R) (pq : ℕ → Claims R) (t : Log) → I t → I (Sumcheck.send F S k lambda eq pq t).log
  unfolding Sumcheck.send
  sub_keep zero lambda eq pq t h = h
  sub_keep (suc k) lambda eq pq t h = sub_keep k lambda _ _ _ (drew _ (cubic_keep _ t h))

  send_keep : (f : ℕ → Frac R) (n : ℕ) (xi : List R) (t : Log) → I t → I (Gkr.send F S f n xi t).log
  unfolding Gkr.send
  send_keep f zero xi t h = h
  send_keep f (suc n) xi t h = send_keep f n _ _ (drew _ (claims_keep _ _ (sub_keep (length xi) _ _ _ _ (drew t h))))

  pub run_keeps : (m : ℕ) (f : ℕ → Frac R) (t : Log) → I t → I (Gkr.run F S m f t).log
  unfolding Gkr.run
  run_keeps m f t h = send_keep f m _ _ (drew _ (claims_keep _ _ (more _ t h)))

  pub done_keeps : (asserted : Bool) (m : ℕ) (f : ℕ → Frac R) (t : Log) (P : Gkr.Proved F S)
      → Gkr.fractional_sumcheck F S asserted m f t ≡ done P → I t → I P.log
  done_keeps asserted m f t P e h = subst (λ Q. I Q.log) (sym (Count.done_run F S asserted m f t P e)) (run_keeps m f _ (go asserted))
    where
      go : (b : Bool) → I (Count.start F S b m f t)
      go true = h
      go false = more _ t h

  -- THE VERIFIER

  -- the log that is left, where t was the log before the run
  Left : (t : Log) → Gkr.Verdict F S → Type 0
  Left t v = I (Gkr.log_after F S t v)

  pub check_keep : (polys : List (Cubic R)) (xi : List R) (claim eq : R) (t : Log) → I t → I (Sumcheck.verify_gkr_sumcheck F S polys xi claim eq t).log
  unfolding Sumcheck.verify_gkr_sumcheck
  check_keep [] xi claim eq t h = h
  check_keep (s ∷ polys) [] claim eq t h = h
  check_keep (s ∷ polys) (x ∷ xi) claim eq t h = check_keep polys xi _ _ _ (drew _ (cubic_keep s t h))

  two_tests : (t₀ : Log) (p q : Bool) (next v w : Gkr.Verdict F S) → Left t₀ next → Left t₀ v → Left t₀ w → Left t₀ (cond p (cond q next v) w)
  two_tests t₀ true true next v w a b c = a
  two_tests t₀ true false next v w a b c = b
  two_tests t₀ false q next v w a b c = c

  pub rounds_keep : (t₀ : Log) (polyss : List (List (Cubic R))) (cs : List (Claims R)) (v : Frac R) (xi : List R) (t : Log)
      → I t → I (Gkr.log_after F S t₀ (Gkr.rounds F S polyss cs v xi t))
  unfolding Gkr.rounds Left
  rounds_keep t₀ [] cs v xi t h = h
  rounds_keep t₀ (polys ∷ polyss) [] v xi t h = h
  rounds_keep t₀ (polys ∷ polyss) (c ∷ cs) v xi t h =
      let r = length xi in
      let C = Sumcheck.verify_gkr_sumcheck F S polys xi (F.ring.add v.p (F.ring.mul (draw t) v.q)) F.ring.one (drawn t) in
      let t₂ = Gkr.observe_layer_claims F S c C.log in
      let mu = draw t₂ in
      let expected = F.ring.mul (RoundSum.cross F.ring (draw t) c) C.eq in
      let w = Tree.reduce_to_single_evaluation F.ring c mu in
      let claimed = claims_keep c C.log (check_keep polys xi _ _ (drawn t) (drew t h)) in
      two_tests t₀ (eqb (length polys) r) (F.same expected C.claim) (Gkr.rounds F S polyss cs w (mu ∷ C.point) (drawn t₂)) (layer_check r expected C.claim t₂) (subround_count r r (length polys) (drawn t))
      (rounds_keep t₀ polyss cs w (mu ∷ C.point) (drawn t₂) (drew t₂ claimed))
      claimed
      (drew t h)

  root_keep : (t₀ : Log) (q0 : R) (c : Claims R) (cs : List (Claims R)) (polyss : List (List (Cubic R))) (t : Log) → I t → Left t₀ (Gkr.root F S q0 c cs polyss t)
  unfolding Gkr.root Left
  root_keep t₀ q0 c cs polyss t h =
      let t₁ = Gkr.observe_layer_claims F S c (observe q0 t) in
      let sum = Tree.compute_recursive_relations F.ring c in
      let mu = draw t₁ in
      let w = Tree.reduce_to_single_evaluation F.ring c mu in
      let claimed = claims_keep c (observe q0 t) (more q0 t h) in
      two_tests t₀ (F.same sum.p F.ring.nil) (F.same sum.q q0) (Gkr.rounds F S polyss cs w (mu ∷ []) (drawn t₁)) (root_check q0 sum.q t₁) (zero_check sum.p t₁)
      (rounds_keep t₀ polyss cs w (mu ∷ []) (drawn t₁) (drew t₁ claimed))
      claimed
      claimed

  counted_keep : (m : ℕ) (q0 : R) (claims : List (Claims R)) (polyss : List (List (Cubic R))) (t : Log) → I t → Left t (Gkr.counted F S m q0 claims polyss t)
  unfolding Gkr.counted Left
  counted_keep m q0 [] polyss t h = h
  counted_keep m q0 (c ∷ cs) polyss t h =
      two_tests t (eqb (length cs) m) (eqb (length polyss) m) (Gkr.root F S q0 c cs polyss t) (poly_count m (length polyss)) (layer_count (suc m) (suc (length cs)))
      (root_keep t q0 c cs polyss t h)
      h
      h

  pub verify_keeps : (n : ℕ) (π : Proof R) (t : Log) → I t → I (Gkr.log_after F S t (Gkr.verify_gkr F S n π t))
  unfolding Gkr.verify_gkr Left
  verify_keeps zero π t h = h
  verify_keeps (suc m) π t h = counted_keep m π.q0 π.claims π.polys t h
