-- The challenges of an accepted run stand at the places that `places` counts.
-- Assumes nothing.
use Prim.Native.Nat.{ℕ, suc}
use Rattle.std.specs.Prelude.{◌≡◌, length, replicate, eqb}
use Rattle.std.proofs.Math.Path.{refl, sym, ap, ap₂}
use Rattle.std.proofs.Common.{◌∙◌, suc-ne-zero}
use mathlib.Core.List.{List, [], ◌∷◌, ◌++◌, map}
use Rattle.std.proofs.Math.Nat.{suc_inj}
use borrow.Author.Tests.{eqb-true}
use Rattle.ring.specs.Field.{Field}
use Rattle.multilinear.specs.RoundSum
use Rattle.multilinear.specs.RoundSum.{Claims}
use Rattle.gkr.specs.Run.{Transcript, Frac, Cubic, Proof}
use Rattle.gkr.specs.Tree
use Rattle.gkr.specs.Sumcheck
use Rattle.gkr.specs.Gkr
use Rattle.gkr.specs.Count
use Rattle.soundness.specs.Steps.{Step, Drawn, most, batched}
use Rattle.soundness.specs.Challenges.{subround_challenges, layer_challenges, root_challenges, challenges, Accepts}
use Rattle.soundness.specs.Errors.{layer_places, places}
use Rattle.soundness.specs.Provers.{Shaped}
use Rattle.soundness.proofs.Sound.{passed}

-- how many challenges can be bad at each of these
abbrev pub mosts : {A : Type 0} → List (Drawn (Step A) A) → List ℕ
mosts ds = map (λ d. most d.step) ds

mosts_append : {A : Type 0} (a b : List (Drawn (Step A) A)) → mosts (a ++ b) ≡ mosts a ++ mosts b
mosts_append [] b = refl
mosts_append (d ∷ a) b = ap (λ l. most d.step ∷ l) (mosts_append a b)

module _ (F : Field) (S : Transcript F.ring.carrier) where
  open F use {ring as K, same}
  open F.ring use {carrier as R, mul as ◌*◌, nil, one}
  open S use {Log, observe, draw, drawn}

  infixl 70 ◌*◌
  sub_mosts : (h : ℕ) (xi : List R) (lambda : R) (rhos : List R) (polys : List (Cubic R)) (left : List R) (claim : R) (t : Log) → length polys ≡ length left
      → mosts (subround_challenges F S h xi lambda rhos polys left claim t) ≡ replicate (length left) 3
  unfolding subround_challenges
  sub_mosts h xi lambda rhos [] [] claim t n = refl
  sub_mosts h xi lambda rhos [] (x ∷ left) claim t n = absurd (suc-ne-zero _ (sym n))
  sub_mosts h xi lambda rhos (s ∷ polys) [] claim t n = absurd (suc-ne-zero _ n)
  sub_mosts h xi lambda rhos (s ∷ polys) (x ∷ left) claim t n = ap (λ l. 3 ∷ l) (sub_mosts h xi lambda (draw (Sumcheck.observe_cubic F S s t) ∷ rhos) polys left _ _ (suc_inj n))

  pub sub_point : (polys : List (Cubic R)) (xi : List R) (claim eq : R) (t : Log) → length polys ≡ length xi → length (Sumcheck.verify_gkr_sumcheck F S polys xi claim eq t).point ≡ length xi
  unfolding Sumcheck.verify_gkr_sumcheck
  sub_point [] [] claim eq t n = refl
  sub_point [] (x ∷ xi) claim eq t n = absurd (suc-ne-zero _ (sym n))
  sub_point (s ∷ polys) [] claim eq t n = absurd (suc-ne-zero _ n)
  sub_point (s ∷ polys) (x ∷ xi) claim eq t n = ap suc (sub_point polys xi _ _ _ (suc_inj n))

  layer_mosts : (f : ℕ → Frac R) (polyss : List (List (Cubic R))) (cs : List (Claims R)) (v : Frac R) (xi : List R) (t : Log) → length polyss ≡ length cs
      → Accepts F S f (Gkr.rounds F S polyss cs v xi t) → mosts (layer_challenges F S polyss cs v xi t) ≡ layer_places (length polyss) (length xi)
  unfolding Gkr.rounds layer_challenges layer_places
  layer_mosts f [] [] v xi t n g = refl
  layer_mosts f [] (c ∷ cs) v xi t n g = absurd (suc-ne-zero _ (sym n))
  layer_mosts f (polys ∷ polyss) [] v xi t n g = absurd (suc-ne-zero _ n)
  layer_mosts f (polys ∷ polyss) (c ∷ cs) v xi t n g =
      let lambda = draw t in
      let C = Sumcheck.verify_gkr_sumcheck F S polys xi (batched F v lambda) one (drawn t) in
      let t₂ = Gkr.observe_layer_claims F S c C.log in
      let mu = draw t₂ in
      let counts = passed F S f (eqb (length polys) (length xi)) _ _ (λ x. x) g in
      let holds = passed F S f (same (RoundSum.cross K lambda c * C.eq) C.claim) _ _ (λ x. x) counts.1 in
      let k = eqb-true _ _ counts.0 in
      let rest = layer_mosts f polyss cs (Tree.reduce_to_single_evaluation K c mu) (mu ∷ C.point) (drawn t₂) (suc_inj n) holds.1 in
      ap (λ l. 1 ∷ l) (mosts_append (subround_challenges F S (length polyss) xi lambda [] polys xi (batched F v lambda) (drawn t)) _
      ∙ ap₂ (λ a b. a ++ (1 ∷ b)) (sub_mosts (length polyss) xi lambda [] polys xi (batched F v lambda) (drawn t) k)
      (rest ∙ ap (λ r. layer_places (length polyss) (suc r)) (sub_point polys xi (batched F v lambda) one (drawn t) k)))

  counted_mosts : (f : ℕ → Frac R) (m : ℕ) (q0 : R) (cs : List (Claims R)) (polyss : List (List (Cubic R))) (t : Log)
      → Accepts F S f (Gkr.counted F S m q0 cs polyss t) → mosts (root_challenges F S q0 cs polyss t) ≡ places m
  unfolding Gkr.counted Gkr.root root_challenges places
  counted_mosts f m q0 [] polyss t g = absurd g
  counted_mosts f m q0 (c ∷ cs) polyss t g =
      let claims = passed F S f (eqb (length cs) m) _ _ (λ x. x) g in
      let polys = passed F S f (eqb (length polyss) m) _ _ (λ x. x) claims.1 in
      let zero = passed F S f (same (Tree.compute_recursive_relations K c).p nil) _ _ (λ x. x) polys.1 in
      let denominator = passed F S f (same (Tree.compute_recursive_relations K c).q q0) _ _ (λ x. x) zero.1 in
      let k = eqb-true _ _ polys.0 in
      ap (λ l. 1 ∷ l) (layer_mosts f polyss cs _ _ _ (k ∙ sym (eqb-true _ _ claims.0)) denominator.1 ∙ ap (λ j. layer_places j 1) k)

  -- WHOEVER IS ACCEPTED has sent lists of the right lengths
  pub accepted_places : (f : ℕ → Frac R) (m : ℕ) (π : Proof R) (t : Log) → Accepts F S f (Gkr.verify_gkr F S (suc m) π t) → mosts (challenges F S π t) ≡ places m
  unfolding Gkr.verify_gkr
  accepted_places f m π t g = counted_mosts f m π.q0 π.claims π.polys t g

  counted_lengths : (f : ℕ → Frac R) (m : ℕ) (q0 : R) (cs : List (Claims R)) (polyss : List (List (Cubic R))) (t : Log)
      → Accepts F S f (Gkr.counted F S m q0 cs polyss t) → (length cs ≡ suc m) × (length polyss ≡ m)
  unfolding Gkr.counted
  counted_lengths f m q0 [] polyss t g = absurd g
  counted_lengths f m q0 (c ∷ cs) polyss t g =
      let claims = passed F S f (eqb (length cs) m) _ _ (λ x. x) g in
      let polys = passed F S f (eqb (length polyss) m) _ _ (λ x. x) claims.1 in
      (ap suc (eqb-true _ _ claims.0), eqb-true _ _ polys.0)

  pub accepted_lengths : (f : ℕ → Frac R) (m : ℕ) (π : Proof R) (t : Log) → Accepts F S f (Gkr.verify_gkr F S (suc m) π t) → (length π.claims ≡ suc m) × (length π.polys ≡ m)
  unfolding Gkr.verify_gkr
  accepted_lengths f m π t g = counted_lengths f m π.q0 π.claims π.polys t g

  -- each layer after layer 0 has one sub-round more than the one before it
  layer_lengths : (f : ℕ → Frac R) (polyss : List (List (Cubic R))) (cs : List (Claims R)) (v : Frac R) (xi : List R) (t : Log) → length polyss ≡ length cs
      → Accepts F S f (Gkr.rounds F S polyss cs v xi t) → map length polyss ≡ Count.lengths (length polyss) (length xi)
  unfolding Gkr.rounds Count.lengths
  layer_lengths f [] [] v xi t n g = refl
  layer_lengths f [] (c ∷ cs) v xi t n g = absurd (suc-ne-zero _ (sym n))
  layer_lengths f (polys ∷ polyss) [] v xi t n g = absurd (suc-ne-zero _ n)
  layer_lengths f (polys ∷ polyss) (c ∷ cs) v xi t n g =
      let claim = batched F v (draw t) in
      let C = Sumcheck.verify_gkr_sumcheck F S polys xi claim one (drawn t) in
      let counts = passed F S f (eqb (length polys) (length xi)) _ _ (λ x. x) g in
      let holds = passed F S f (same (RoundSum.cross K (draw t) c * C.eq) C.claim) _ _ (λ x. x) counts.1 in
      let k = eqb-true _ _ counts.0 in
      ap₂ (λ r l. r ∷ l) k (layer_lengths f polyss cs _ _ _ (suc_inj n) holds.1 ∙ ap (λ r. Count.lengths (length polyss) (suc r)) (sub_point polys xi claim one (drawn t) k))

  counted_shape : (f : ℕ → Frac R) (m : ℕ) (q0 : R) (cs : List (Claims R)) (polyss : List (List (Cubic R))) (t : Log)
      → Accepts F S f (Gkr.counted F S m q0 cs polyss t) → map length polyss ≡ Count.lengths m 1
  unfolding Gkr.counted Gkr.root
  counted_shape f m q0 [] polyss t g = absurd g
  counted_shape f m q0 (c ∷ cs) polyss t g =
      let claims = passed F S f (eqb (length cs) m) _ _ (λ x. x) g in
      let polys = passed F S f (eqb (length polyss) m) _ _ (λ x. x) claims.1 in
      let zero = passed F S f (same (Tree.compute_recursive_relations K c).p nil) _ _ (λ x. x) polys.1 in
      let denominator = passed F S f (same (Tree.compute_recursive_relations K c).q q0) _ _ (λ x. x) zero.1 in
      let k = eqb-true _ _ polys.0 in
      layer_lengths f polyss cs _ _ _ (k ∙ sym (eqb-true _ _ claims.0)) denominator.1 ∙ ap (λ j. Count.lengths j 1) k

  pub accepted_shape : (f : ℕ → Frac R) (m : ℕ) (π : Proof R) (t : Log) → Accepts F S f (Gkr.verify_gkr F S (suc m) π t) → Shaped m π
  unfolding Gkr.verify_gkr
  accepted_shape f m π t g = ((counted_lengths f m π.q0 π.claims π.polys t g).0, counted_shape f m π.q0 π.claims π.polys t g)
