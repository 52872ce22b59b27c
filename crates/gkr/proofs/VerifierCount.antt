-- How many observations and challenges the verifier takes: all of a run's if it accepts, and at most those if it turns a proof away.
-- Assumes nothing.
use Rattle.std.specs.Prelude.{◌≡◌, Bool, eqb}
use Rattle.std.proofs.Math.Path.{refl, sym, ap, ap₂, subst}
use Rattle.std.proofs.Common.{◌∙◌, subst₂, suc-ne-zero, eqb-true}
use Rattle.std.proofs.Math.Bool.{true, false, cond}
use mathlib.Core.List.{List, [], ◌∷◌}
use Prim.Native.Nat.{ℕ, suc, ◌≤◌, ◌+◌, ◌*◌}
use Rattle.std.proofs.Math.Nat.{suc_inj, le_of_eq}
use native.Mathlib.Omega.{arith}
use Rattle.std.proofs.Math.ListN.{length}
use Rattle.ring.specs.Field.{Field}
use Rattle.multilinear.specs.RoundSum
use Rattle.multilinear.specs.RoundSum.{Claims}
use Rattle.gkr.specs.Run.{Transcript, Frac, Cubic, Proof}
use Rattle.gkr.specs.Tests.{either}
use Rattle.gkr.specs.Tree
use Rattle.gkr.specs.Sumcheck
use Rattle.gkr.specs.Gkr
use Rattle.gkr.specs.Gkr.{accepted, zero_rounds, layer_count, poly_count, zero_check, root_check, subround_count, layer_check}
use Rattle.gkr.proofs.Count
use Rattle.gkr.specs.Count.{layers_cost, run_cost}

-- a size of the log that grows by o at an observation and by d at a challenge
module _ (F : Field) (S : Transcript F.ring.carrier) (size : S.Log → ℕ) (o d : ℕ) (more : (x : F.ring.carrier) (t : S.Log) → size (S.observe x t) ≡ size t + o) (drew : (t : S.Log) → size (S.drawn t) ≡ size t + d) where
  open F.ring use {carrier as R}
  open S use {Log, observe, draw, drawn}

  abbrev Verdict : Type 0
  Verdict = Gkr.Verdict F S

  -- accepted: a point of length n and a log of size e; turned away: a log of at most that size
  Within : (e n : ℕ) → Verdict → Type 0
  Within e n (accepted v xi u) = (size u ≡ e) × (length xi ≡ n)
  Within e n zero_rounds = Unit
  Within e n (layer_count expected actual) = Unit
  Within e n (poly_count expected actual) = Unit
  Within e n (zero_check actual u) = size u ≤ e
  Within e n (root_check expected actual u) = size u ≤ e
  Within e n (subround_count round expected actual u) = size u ≤ e
  Within e n (layer_check round expected actual u) = size u ≤ e

  record Along (polys : List (Cubic R)) (xi : List R) (t : Log) (C : Sumcheck.Checked F S) : Type 0 where
    grown : size C.log ≡ size t + length xi * (3 * o + d)
    point : length C.point ≡ length xi

  along : (polys : List (Cubic R)) (xi : List R) (claim eq : R) (t : Log) → length polys ≡ length xi
      → Along polys xi t (Sumcheck.verify_gkr_sumcheck F S polys xi claim eq t)
  unfolding Sumcheck.verify_gkr_sumcheck
  along [] [] claim eq t e = record { grown = omega arith; point = refl }
  along [] (x ∷ xi) claim eq t e = absurd (suc-ne-zero _ (sym e))
  along (s ∷ polys) [] claim eq t e = absurd (suc-ne-zero _ e)
  along (s ∷ polys) (x ∷ xi) claim eq t e =
      let ih = along polys xi _ _ _ (suc_inj e) in record {
        grown = ih.grown ∙ ap (λ n. n + length xi * (3 * o + d)) (drew _ ∙ ap (λ n. n + d) (Count.cubic_size F S size o d more drew s t)) ∙ omega arith;
        point = ap suc ih.point;
      }

  accepted_within : (e n : ℕ) (v : Frac R) (xi : List R) (u : Log) → size u ≡ e → length xi ≡ n → Within e n (accepted v xi u)
  unfolding Within
  accepted_within e n v xi u h l = (h, l)

  -- a round's two tests, and round 0's two
  round_within : (e n : ℕ) (count sum : Bool) (next : Verdict) (r k a : ℕ) (x y : R) (t u : Log)
      → (count ≡ true → Within e n next × (size u ≤ e)) → size t ≤ e → Within e n (cond count (cond sum next (layer_check r x y u)) (subround_count r k a t))
  unfolding Within
  round_within e n true true next r k a x y t u h l = (h refl).0
  round_within e n true false next r k a x y t u h l = (h refl).1
  round_within e n false sum next r k a x y t u h l = l

  root_within : (e n : ℕ) (p q : Bool) (next : Verdict) (x y z : R) (t : Log)
      → Within e n next → size t ≤ e → Within e n (cond p (cond q next (root_check x y t)) (zero_check z t))
  unfolding Within
  root_within e n true true next x y z t h l = h
  root_within e n true false next x y z t h l = l
  root_within e n false q next x y z t h l = l

  rounds_within : (polyss : List (List (Cubic R))) (cs : List (Claims R)) (v : Frac R) (xi : List R) (t : Log) → length cs ≡ length polyss
      → Within (size t + layers_cost o d (length polyss) (length xi)) (length polyss + length xi) (Gkr.rounds F S polyss cs v xi t)
  unfolding Gkr.rounds layers_cost
  rounds_within [] cs v xi t e = accepted_within _ _ v xi t (omega arith) (omega arith)
  rounds_within (polys ∷ polyss) [] v xi t e = absurd (suc-ne-zero _ (sym e))
  rounds_within (polys ∷ polyss) (c ∷ cs) v xi t e =
      let r = length xi in
      let C = Sumcheck.verify_gkr_sumcheck F S polys xi (F.ring.add v.p (F.ring.mul (draw t) v.q)) F.ring.one (drawn t) in
      let t₂ = Gkr.observe_layer_claims F S c C.log in
      let mu = draw t₂ in
      let expected = F.ring.mul (RoundSum.cross F.ring (draw t) c) C.eq in
      let w = Tree.reduce_to_single_evaluation F.ring c mu in
      let next = Gkr.rounds F S polyss cs w (mu ∷ C.point) (drawn t₂) in
      let early : size (drawn t) ≤ size t + layers_cost o d (suc (length polyss)) r = omega (arith, drew t) in
      round_within _ _ (eqb (length polys) r) (F.same expected C.claim) next r r (length polys) expected C.claim (drawn t) t₂
      (λ same_count.
      let a = along polys xi _ _ (drawn t) (eqb-true _ _ same_count) in
      let claimed : size t₂ ≡ size t + d + r * (3 * o + d) + 4 * o = Count.claims_size F S size o d more drew c C.log ∙ ap (λ n. n + 4 * o) (a.grown ∙ ap (λ n. n + r * (3 * o + d)) (drew t)) in
      let late : size t₂ ≤ size t + layers_cost o d (suc (length polyss)) r = omega (arith, claimed) in
      let costs : size (drawn t₂) + layers_cost o d (length polyss) (suc (length C.point)) ≡ size t + layers_cost o d (suc (length polyss)) r =
      ap₂ (λ n k. n + layers_cost o d (length polyss) (suc k)) (drew t₂ ∙ ap (λ n. n + d) claimed) a.point ∙ omega arith in
      let point : length polyss + suc (length C.point) ≡ suc (length polyss) + r = ap (λ k. length polyss + suc k) a.point ∙ omega arith in
      (subst₂ (λ g n. Within g n next) costs point (rounds_within polyss cs w (mu ∷ C.point) (drawn t₂) (suc_inj e)), late))
      early

  first_within : (m : ℕ) (q0 : R) (c : Claims R) (cs : List (Claims R)) (polyss : List (List (Cubic R))) (t : Log) → length cs ≡ m → length polyss ≡ m
      → Within (size t + run_cost o d m) (suc m) (Gkr.root F S q0 c cs polyss t)
  unfolding Gkr.root run_cost
  first_within m q0 c cs polyss t hc hp =
      let t₁ = Gkr.observe_layer_claims F S c (observe q0 t) in
      let sum = Tree.compute_recursive_relations F.ring c in
      let mu = draw t₁ in
      let w = Tree.reduce_to_single_evaluation F.ring c mu in
      let next = Gkr.rounds F S polyss cs w (mu ∷ []) (drawn t₁) in
      let claimed : size t₁ ≡ size t + o + 4 * o = Count.claims_size F S size o d more drew c (observe q0 t) ∙ ap (λ n. n + 4 * o) (more q0 t) in
      let late : size t₁ ≤ size t + (5 * o + d + layers_cost o d m 1) = omega (arith, claimed) in
      let costs : size (drawn t₁) + layers_cost o d (length polyss) 1 ≡ size t + (5 * o + d + layers_cost o d m 1) =
      ap₂ (λ n k. n + layers_cost o d k 1) (drew t₁ ∙ ap (λ n. n + d) claimed) hp ∙ omega arith in
      let point : length polyss + 1 ≡ suc m = ap (λ k. k + 1) hp ∙ omega arith in
      root_within _ _ (F.same sum.p F.ring.nil) (F.same sum.q q0) next q0 sum.q sum.p t₁
      (subst₂ (λ g n. Within g n next) costs point (rounds_within polyss cs w (mu ∷ []) (drawn t₁) (hc ∙ sym hp))) late

  counted_within : (m : ℕ) (q0 : R) (claims : List (Claims R)) (polyss : List (List (Cubic R))) (t : Log)
      → Within (size t + run_cost o d m) (suc m) (Gkr.counted F S m q0 claims polyss t)
  unfolding Gkr.counted Within
  counted_within m q0 [] polyss t = tt
  counted_within m q0 (c ∷ cs) polyss t =
      let Q = Within (size t + run_cost o d m) (suc m) in
      let run = Gkr.root F S q0 c cs polyss t in
      let polys = cond (eqb (length polyss) m) run (poly_count m (length polyss)) in
      either Q (eqb (length cs) m) polys (layer_count (suc m) (suc (length cs)))
      (λ hc. either Q (eqb (length polyss) m) run (poly_count m (length polyss))
      (λ hp. first_within m q0 c cs polyss t (eqb-true _ _ hc) (eqb-true _ _ hp)) (λ _. tt))
      (λ _. tt)

  verify_within : (m : ℕ) (π : Proof R) (t : Log) → Within (size t + run_cost o d m) (suc m) (Gkr.verify_gkr F S (suc m) π t)
  unfolding Gkr.verify_gkr
  verify_within m π t = counted_within m π.q0 π.claims π.polys t

  -- accepted: a whole run
  pub accepted_size : (m : ℕ) (π : Proof R) (t : Log) (v : Frac R) (xi : List R) (u : Log)
      → Gkr.verify_gkr F S (suc m) π t ≡ accepted v xi u → (size u ≡ size t + run_cost o d m) × (length xi ≡ suc m)
  unfolding Within
  accepted_size m π t v xi u e = subst (Within (size t + run_cost o d m) (suc m)) e (verify_within m π t)

  left_within : (e n : ℕ) (t : Log) (v : Verdict) → size t ≤ e → Within e n v → size (Gkr.log_after F S t v) ≤ e
  unfolding Within
  left_within e n t (accepted v xi u) l h = le_of_eq h.0
  left_within e n t zero_rounds l h = l
  left_within e n t (layer_count expected actual) l h = l
  left_within e n t (poly_count expected actual) l h = l
  left_within e n t (zero_check actual u) l h = h
  left_within e n t (root_check expected actual u) l h = h
  left_within e n t (subround_count round expected actual u) l h = h
  left_within e n t (layer_check round expected actual u) l h = h

  -- accepted or not: at most a whole run
  pub left_size : (m : ℕ) (π : Proof R) (t : Log) → size (Gkr.log_after F S t (Gkr.verify_gkr F S (suc m) π t)) ≤ size t + run_cost o d m
  left_size m π t = left_within _ (suc m) t _ (omega arith) (verify_within m π t)

-- accepted: a point of n
pub accepted_point : (F : Field) (S : Transcript F.ring.carrier) (m : ℕ) (π : Proof F.ring.carrier) (t : S.Log) (v : Frac F.ring.carrier) (xi : List F.ring.carrier) (u : S.Log)
    → Gkr.verify_gkr F S (suc m) π t ≡ accepted v xi u → length xi ≡ suc m
accepted_point F S m π t v xi u e = (accepted_size F S (λ _. 0) 0 0 (λ _ _. refl) (λ _. refl) m π t v xi u e).1
