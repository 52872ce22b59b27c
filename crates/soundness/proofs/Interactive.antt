-- An interactive prover does not look ahead, whatever it sends; so the soundness error holds of it.
-- Assumes nothing.
use Prim.Native.Nat.{ℕ, zero, suc, ◌+◌}
use Rattle.std.specs.Prelude.{◌≡◌, ◌⊎◌, length, replicate, drop}
use Rattle.std.proofs.Math.Path.{refl, sym, ap, ap₂}
use Rattle.std.proofs.Common.{◌∙◌, inl, inr, suc-ne-zero, arith}
use mathlib.Core.List.{List, [], ◌∷◌, ◌++◌}
use Rattle.std.proofs.Math.Nat.{suc_inj}
use Rattle.std.proofs.Math.ListN.{length-append, length-replicate, get_or}
use Rattle.ring.specs.Field.{Field}
use Rattle.multilinear.specs.Forms
use Rattle.multilinear.specs.RoundSum.{Claims}
use Rattle.gkr.specs.Run.{Frac, Cubic}
use Rattle.gkr.specs.Tree
use Rattle.gkr.specs.Sumcheck
use Rattle.soundness.specs.Steps.{Step, batching, subround, joining, batched, next_claim}
use Rattle.soundness.specs.Challenges.{subround_challenges, layer_challenges, root_challenges, challenges}
use Rattle.soundness.specs.Errors.{layer_places, places}
use Rattle.soundness.specs.ErrorLaws.{places_length}
use Rattle.soundness.specs.Provers.{along, Shaped, coins, Prover, Convinces, Adaptive}
use Rattle.soundness.proofs.Shape.{accepted_shape}
use Rattle.soundness.specs.Strategies.{Sub, Layers, Strategy, tell, tells, proof}

module _ (F : Field) where
  open F use {ring as K}
  open F.ring use {carrier as R, mul as ◌*◌, nil, one}

  infixl 70 ◌*◌
  abbrev reduce : Claims R → R → Frac R
  reduce = Tree.reduce_to_single_evaluation K

  abbrev check : List (Cubic R) → List R → R → R → List R → Sumcheck.Checked F (coins F)
  check = Sumcheck.verify_gkr_sumcheck F (coins F)

  -- WHAT IS ON THE TABLE after the challenges `before`

  sub_table : {B : Type 0} (h k : ℕ) (xi : List R) (lambda : R) (rhos : List R) (claim : R) → Sub F B k → (go : B → List R → List R → Step R) → List R → Step R
  sub_table h zero xi lambda rhos claim σ go before = go σ [] before
  sub_table h (suc k) xi lambda rhos claim σ go [] = subround h k xi lambda rhos claim σ.0
  sub_table h (suc k) xi lambda rhos claim σ go (rho ∷ before) =
      sub_table h k xi lambda (rho ∷ rhos) (next_claim F claim σ.0 rho) (σ.1 rho) (λ b point. go b (rho ∷ point)) before

  -- before mu, and after it
  join : (h : ℕ) (point : List R) (c : Claims R) (go : R → List R → Step R) → List R → Step R
  join h point c go [] = joining h point c
  join h point c go (mu ∷ before) = go mu before

  layers_table : (h r : ℕ) → Layers F h r → Frac R → List R → List R → Step R
  unfolding sub_table join
  layers_table zero r σ v xi before = batching 0 xi v
  layers_table (suc h) r σ v xi [] = batching h xi v
  layers_table (suc h) r σ v xi (lambda ∷ before) =
      sub_table h r xi lambda [] (batched F v lambda) (σ lambda)
      (λ b point. join h point b.0 (λ mu. layers_table h (suc r) (b.1 mu) (reduce b.0 mu) (mu ∷ point))) before

  table : (m : ℕ) → Strategy F m → List R → Step R
  unfolding join
  table m σ = join m [] σ.claims (λ mu. layers_table m 1 (σ.next mu) (reduce σ.claims mu) (mu ∷ []))

  -- ITS RUN IS WHAT THE TABLE SAYS

  record Same {B : Type 0} (h k : ℕ) (xi : List R) (lambda : R) (rhos left : List R) (claim a : R) (σ : Sub F B k) (go : B → List R → List R → Step R) (j : ℕ) (cs : List R) : Type 0 where
    run : let P = tell F k σ cs in
        along (sub_table h k xi lambda rhos claim σ go) cs
        ≡ subround_challenges F (coins F) h xi lambda rhos P.polys left claim cs ++ along (go P.next (check P.polys left claim a cs).point) P.left
    log : let P = tell F k σ cs in (check P.polys left claim a cs).log ≡ P.left
    count : let P = tell F k σ cs in length (check P.polys left claim a cs).point ≡ k
    rest : length (tell F k σ cs).left ≡ j

  sub_same : {B : Type 0} (h k : ℕ) (xi : List R) (lambda : R) (rhos left : List R) (claim a : R) (σ : Sub F B k) (go : B → List R → List R → Step R) (j : ℕ) (cs : List R)
      → length left ≡ k → length cs ≡ k + j → Same h k xi lambda rhos left claim a σ go j cs
  unfolding tell sub_table subround_challenges Sumcheck.verify_gkr_sumcheck
  sub_same h zero xi lambda rhos [] claim a σ go j cs e l = record { run = refl; log = refl; count = refl; rest = omega (arith, l) }
  sub_same h zero xi lambda rhos (x ∷ left) claim a σ go j cs e l = absurd (suc-ne-zero _ e)
  sub_same h (suc k) xi lambda rhos [] claim a σ go j cs e l = absurd (suc-ne-zero _ (sym e))
  sub_same h (suc k) xi lambda rhos (x ∷ left) claim a σ go j [] e l = absurd (omega (arith, l))
  sub_same h (suc k) xi lambda rhos (x ∷ left) claim a σ go j (rho ∷ cs) e l =
      let ih = sub_same h k xi lambda (rho ∷ rhos) left (next_claim F claim σ.0 rho) (a * Forms.agree K x rho) (σ.1 rho) (λ b point. go b (rho ∷ point)) j cs (suc_inj e) (omega (arith, l)) in
      record {
        run = ap₂ (λ i ds. record { step = subround h i xi lambda rhos claim σ.0; challenge = rho } ∷ ds) (sym (suc_inj e)) ih.run;
        log = ih.log;
        count = ap suc ih.count;
        rest = ih.rest;
      }

  tells_count : (h r : ℕ) (σ : Layers F h r) (cs : List R) → length (tells F h r σ cs).polys ≡ h
  unfolding tells
  tells_count zero r σ cs = refl
  tells_count (suc h) r σ cs = ap suc (tells_count h (suc r) _ _)

  -- how many challenges the layers take
  takes : (h r : ℕ) (cs : List R) → length cs ≡ length (layer_places (suc h) r) → length (drop 1 cs) ≡ r + suc (length (layer_places h (suc r)))
  unfolding layer_places
  takes h r [] l = absurd (omega (arith, l))
  takes h r (x ∷ cs) l = omega (arith, l, length-append (replicate {A = ℕ} r 3) (1 ∷ layer_places h (suc r)), length-replicate {A = ℕ} r 3)

  -- a challenge is there
  one_more : (T : List R → Step R) (n : ℕ) (cs : List R) → length cs ≡ suc n
      → along T cs ≡ record { step = T []; challenge = get_or cs 0 nil } ∷ along (λ before. T (get_or cs 0 nil ∷ before)) (drop 1 cs)
  one_more T n [] l = absurd (omega (arith, l))
  one_more T n (x ∷ cs) l = refl

  less : (n : ℕ) (cs : List R) → length cs ≡ suc n → length (drop 1 cs) ≡ n
  less n [] l = absurd (omega (arith, l))
  less n (x ∷ cs) l = omega (arith, l)

  layers_same : (h r : ℕ) (σ : Layers F h r) (v : Frac R) (xi cs : List R) → length xi ≡ r → length cs ≡ length (layer_places h r)
      → along (layers_table h r σ v xi) cs ≡ layer_challenges F (coins F) (tells F h r σ cs).polys (tells F h r σ cs).claims v xi cs
  unfolding layers_table tells layer_challenges layer_places join
  layers_same zero r σ v xi [] e l = refl
  layers_same zero r σ v xi (x ∷ cs) e l = absurd (omega (arith, l))
  layers_same (suc h) r σ v xi [] e l = absurd (omega (arith, l))
  layers_same (suc h) r σ v xi (lambda ∷ cs) e l =
      let claim = batched F v lambda in
      let P = tell F r (σ lambda) cs in
      let C = check P.polys xi claim one cs in
      let mu = get_or P.left 0 nil in
      let Q = tells F h (suc r) (P.next.1 mu) (drop 1 P.left) in
      let go : Claims R × (R → Layers F h (suc r)) → List R → List R → Step R = λ b point. join h point b.0 (λ mu. layers_table h (suc r) (b.1 mu) (reduce b.0 mu) (mu ∷ point)) in
      let S = sub_same h r xi lambda [] xi claim one (σ lambda) go (suc (length (layer_places h (suc r)))) cs e (takes h r (lambda ∷ cs) l) in
      ap (λ ds. record { step = batching h xi v; challenge = lambda } ∷ ds)
      (S.run ∙ ap (λ ds. subround_challenges F (coins F) h xi lambda [] P.polys xi claim cs ++ ds)
      (one_more (go P.next C.point) (length (layer_places h (suc r))) P.left S.rest
      ∙ ap (λ ds. record { step = joining h C.point P.next.0; challenge = mu } ∷ ds)
      (layers_same h (suc r) (P.next.1 mu) (reduce P.next.0 mu) (mu ∷ C.point) (drop 1 P.left) (ap suc S.count) (less _ P.left S.rest))))
      ∙ ap₂ (λ i t. record { step = batching i xi v; challenge = lambda }
      ∷ (subround_challenges F (coins F) i xi lambda [] P.polys xi claim cs
      ++ (record { step = joining i C.point P.next.0; challenge = get_or t 0 nil }
      ∷ layer_challenges F (coins F) Q.polys Q.claims (reduce P.next.0 (get_or t 0 nil)) (get_or t 0 nil ∷ C.point) (drop 1 t))))
      (sym (tells_count h (suc r) (P.next.1 mu) (drop 1 P.left))) (sym S.log)

  same_run : (m : ℕ) (σ : Strategy F m) (cs : List R) → length cs ≡ length (places m) → challenges F (coins F) (proof F m σ cs) cs ≡ along (table m σ) cs
  unfolding table join proof root_challenges places
  same_run m σ [] l = absurd (omega (arith, l))
  same_run m σ (mu ∷ cs) l =
      sym (ap₂ (λ i ds. record { step = joining i [] σ.claims; challenge = mu } ∷ ds) (sym (tells_count m 1 (σ.next mu) cs))
      (layers_same m 1 (σ.next mu) (reduce σ.claims mu) (mu ∷ []) cs refl (omega (arith, l))))

  -- AN INTERACTIVE PROVER DOES NOT LOOK AHEAD
  pub interactive : (f : ℕ → Frac R) (m : ℕ) (σ : Strategy F m) → Adaptive F f m (proof F m σ)
  interactive f m σ = record { table = table m σ; follows = λ cs l a. same_run m σ cs (l ∙ sym (places_length m)) }

  -- nor does one that sends, where it convinces, what an interactive prover sends
  pub agreeing : (f : ℕ → Frac R) (m : ℕ) (σ : Prover F) (τ : Strategy F m)
      → ((cs : List R) → Convinces F f m σ cs → σ cs ≡ proof F m τ cs) → Adaptive F f m σ
  agreeing f m σ τ h = record { table = table m τ; follows = λ cs l a. ap (λ π. challenges F (coins F) π cs) (h cs a) ∙ same_run m τ cs (l ∙ sym (places_length m)) }

  -- LISTS OF WRONG LENGTHS, in place of what an interactive prover sends, whenever the prover likes: they are turned away
  pub any_lengths : (f : ℕ → Frac R) (m : ℕ) (σ : Prover F) (τ : Strategy F m)
      → ((cs : List R) → (σ cs ≡ proof F m τ cs) ⊎ (¬ Shaped m (σ cs))) → Adaptive F f m σ
  any_lengths f m σ τ h = agreeing f m σ τ (λ cs a. right cs a (h cs))
    where
      right : (cs : List R) → Convinces F f m σ cs → (σ cs ≡ proof F m τ cs) ⊎ (¬ Shaped m (σ cs)) → σ cs ≡ proof F m τ cs
      right cs a (inl e) = e
      right cs a (inr n) = absurd (n (accepted_shape F (coins F) f m (σ cs) cs a))
