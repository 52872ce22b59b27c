-- The challenges of a verifier's run, each with what was on the table; acceptance with claims that are true of the rows; a run that hit a bad challenge.
-- Assumes nothing.
use Rattle.std.specs.Prelude.{ℕ, ◌≡◌, List, [], ◌∷◌, ◌++◌, length}
use Rattle.ring.specs.Field.{Field}
use Rattle.multilinear.specs.RoundSum.{Claims}
use Rattle.gkr.specs.Run.{Transcript, Frac, Cubic, Proof}
use Rattle.gkr.specs.Tree
use Rattle.gkr.specs.Sumcheck
use Rattle.gkr.specs.Gkr
use Rattle.gkr.specs.Gkr.{accepted, zero_rounds, layer_count, poly_count, zero_check, root_check, subround_count, layer_check}
use Rattle.soundness.specs.Few.{Some}
use Rattle.soundness.specs.Steps.{Step, batching, subround, joining, Drawn, batched, next_claim, bad}

module _ (F : Field) (S : Transcript F.ring.carrier) where
  open F use {ring as K}
  open F.ring use {carrier as R, nil, one}
  open S use {Log, observe, draw, drawn}

  abbrev at : Step R → R → Drawn (Step R) R
  at s x = record { step = s; challenge = x }

  -- THE CHALLENGES OF A RUN, in their order: as the verifier draws them (Sumcheck.verify-gkr-sumcheck, Gkr.rounds, Gkr.root)

  unfoldable pub subround_challenges : (h : ℕ) (xi : List R) (lambda : R) (rhos : List R) (polys : List (Cubic R)) (left : List R) (claim : R) (t : Log) → List (Drawn (Step R) R)
  subround_challenges h xi lambda rhos [] left claim t = []
  subround_challenges h xi lambda rhos (s ∷ polys) [] claim t = []
  subround_challenges h xi lambda rhos (s ∷ polys) (x ∷ left) claim t =
      let t₁ = Sumcheck.observe_cubic F S s t in
      let rho = draw t₁ in
      at (subround h (length left) xi lambda rhos claim s) rho ∷ subround_challenges h xi lambda (rho ∷ rhos) polys left (next_claim F claim s rho) (drawn t₁)

  unfoldable pub layer_challenges : (polyss : List (List (Cubic R))) (cs : List (Claims R)) (v : Frac R) (xi : List R) (t : Log) → List (Drawn (Step R) R)
  layer_challenges [] cs v xi t = []
  layer_challenges (polys ∷ polyss) [] v xi t = []
  layer_challenges (polys ∷ polyss) (c ∷ cs) v xi t =
      let h = length polyss in
      let lambda = draw t in
      let sub = Sumcheck.verify_gkr_sumcheck F S polys xi (batched F v lambda) one (drawn t) in
      let t₂ = Gkr.observe_layer_claims F S c sub.log in
      let mu = draw t₂ in
      let rest = layer_challenges polyss cs (Tree.reduce_to_single_evaluation K c mu) (mu ∷ sub.point) (drawn t₂) in
      at (batching h xi v) lambda ∷ (subround_challenges h xi lambda [] polys xi (batched F v lambda) (drawn t) ++ (at (joining h sub.point c) mu ∷ rest))

  unfoldable pub root_challenges : (q0 : R) (claims : List (Claims R)) (polyss : List (List (Cubic R))) (t : Log) → List (Drawn (Step R) R)
  root_challenges q0 [] polyss t = []
  root_challenges q0 (c ∷ cs) polyss t =
      let t₁ = Gkr.observe_layer_claims F S c (observe q0 t) in
      let mu = draw t₁ in
      at (joining (length polyss) [] c) mu ∷ layer_challenges polyss cs (Tree.reduce_to_single_evaluation K c mu) (mu ∷ []) (drawn t₁)

  abbrev pub challenges : (π : Proof R) (t : Log) → List (Drawn (Step R) R)
  challenges π t = root_challenges π.q0 π.claims π.polys t

  -- ACCEPTED, and the claims that are handed on are the values of the rows f at the point
  abbrev pub Accepts : (f : ℕ → Frac R) → Gkr.Verdict F S → Type 0
  Accepts f (accepted v xi t) = v ≡ Tree.value K f xi
  Accepts f zero_rounds = ⊥
  Accepts f (layer_count expected actual) = ⊥
  Accepts f (poly_count expected actual) = ⊥
  Accepts f (zero_check actual t) = ⊥
  Accepts f (root_check expected actual t) = ⊥
  Accepts f (subround_count round expected actual t) = ⊥
  Accepts f (layer_check round expected actual t) = ⊥

  -- one of the challenges of a run was bad
  abbrev pub hit : (f : ℕ → Frac R) → Drawn (Step R) R → Type 0
  hit f d = bad F f d.step d.challenge

  abbrev pub Unlucky : (f : ℕ → Frac R) (π : Proof R) (t : Log) → Type 0
  Unlucky f π t = Some (hit f) (challenges π t)

-- what is claimed: the sum of all rows is zero, and over q0
abbrev pub RootIs : (F : Field) (f : ℕ → Frac F.ring.carrier) (n : ℕ) (q0 : F.ring.carrier) → Type 0
RootIs F f n q0 = let root = Tree.tree F.ring f n 0 in (root.p ≡ F.ring.nil) × (root.q ≡ q0)
