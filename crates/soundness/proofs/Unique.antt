-- UNIQUENESS: an accepted proof with claims that are true of the rows f is, word for word, the honest prover's over f, or a challenge let something slip.
-- Assumes nothing.
use Rattle.std.specs.Prelude.{ℕ, suc, ◌≡◌, true, ◌⊎◌, eqb}
use Rattle.std.proofs.Math.Path.{refl, sym, ap, subst, fun_ext}
use Rattle.std.proofs.Common.{◌∙◌, suc-ne-zero}
use Rattle.std.proofs.Math.Logic.{inl, inr}
use mathlib.Core.List.{List, [], ◌∷◌}
use Rattle.std.proofs.Math.Nat.{suc_inj}
use Rattle.std.proofs.Math.ListN.{length}
use borrow.Author.Tests.{eqb-true}
use Rattle.ring.specs.Field.{Field}
use Rattle.multilinear.specs.Forms
use Rattle.multilinear.specs.Table
use Rattle.multilinear.proofs.TableLaws
use Rattle.multilinear.specs.RoundSum
use Rattle.multilinear.specs.RoundSum.{Claims}
use Rattle.multilinear.proofs.RoundSumLaws
use Rattle.gkr.specs.Run.{Transcript, Frac, Cubic, Proof}
use Rattle.gkr.specs.Tree
use Rattle.gkr.specs.TreeLaws
use Rattle.gkr.specs.Sumcheck
use Rattle.gkr.specs.SumcheckLaws
use Rattle.gkr.specs.Gkr
use Rattle.domain.specs.Field.{Domain}
use Rattle.soundness.specs.Few.{AtMost, Some}
use Rattle.soundness.specs.FewLaws.{at_most_when, meet, doubting, onto}
use Rattle.soundness.specs.Decide.{decide_frac, decide_claims, decide_message}
use Rattle.soundness.specs.Steps.{Step, batching, subround, joining, most, batched, next_claim, bound, bound_claims, true_claims, true_children, true_sum}
use Rattle.soundness.proofs.StepLaws.{few, few_messages}
use Rattle.soundness.specs.Challenges.{subround_challenges, layer_challenges, root_challenges, challenges, Accepts}
use Rattle.soundness.proofs.Sound.{passed, whole_eq}
use Rattle.soundness.specs.Slips.{true_message, slip, slipped}

-- SLIPS ARE FEW, at every step
pub few_slips : (F : Field) (D : Domain F.ring) (f : ℕ → Frac F.ring.carrier) (s : Step F.ring.carrier) → AtMost (most s) (slip F f s)
few_slips F D f (batching h xi v) = few F D f (batching h xi v)
few_slips F D f (subround h k xi lambda rhos claim s) =
    let K = F.ring in
    at_most_when 3 _ _ (few_messages F D k lambda (bound F (Table.weight K xi) rhos) (bound_claims F (Tree.children K (Tree.tree K f h)) rhos) claim s)
few_slips F D f (joining h xi c) = few F D f (joining h xi c)

module _ (F : Field) (S : Transcript F.ring.carrier) (D : Domain F.ring) (exact : (x y : F.ring.carrier) → F.same x y ≡ true → x ≡ y) where
  open F use {ring as K, same}
  open F.ring use {carrier as R, mul as ◌*◌, nil, one}
  open S use {Log, observe, draw, drawn}

  infixl 70 ◌*◌
  abbrev children : (ℕ → Frac R) → ℕ → ℕ → Claims R
  children f h = Tree.children K (Tree.tree K f h)

  abbrev check : List (Cubic R) → List R → R → R → Log → Sumcheck.Checked F S
  check = Sumcheck.verify_gkr_sumcheck F S

  abbrev sub_send : ℕ → R → (ℕ → R) → (ℕ → Claims R) → Log → Sumcheck.Sent F S
  sub_send = Sumcheck.send F S

  abbrev send : (ℕ → Frac R) → ℕ → List R → Log → Gkr.Sent F S
  send = Gkr.send F S

  abbrev reduce : Claims R → R → Frac R
  reduce = Tree.reduce_to_single_evaluation K

  abbrev sum : Claims R → Frac R
  sum = Tree.compute_recursive_relations K

  -- THE SUB-ROUNDS' MESSAGES are the honest ones

  unique_check : (f : ℕ → Frac R) (h : ℕ) (xi : List R) (lambda : R) (rhos : List R) (polys : List (Cubic R)) (left : List R) (claim a : R) (t : Log)
      → length polys ≡ length left
      → bound F (Table.weight K xi) rhos ≡ (λ y. a * Table.weight K left y)
      → let C = check polys left claim a t in
      let pq = bound_claims F (children f h) rhos in
      C.claim ≡ RoundSum.cross K lambda (RoundSum.values K pq C.point) * C.eq
      → ((claim ≡ true_sum F f h (length left) xi lambda rhos) × (polys ≡ (sub_send (length left) lambda (bound F (Table.weight K xi) rhos) pq t).polys))
      ⊎ Some (slipped F f) (subround_challenges F S h xi lambda rhos polys left claim t)
  unfolding Sumcheck.verify_gkr_sumcheck Sumcheck.send subround_challenges
  unique_check f h xi lambda rhos [] [] claim a t n e g =
      let pq = bound_claims F (children f h) rhos in
      inl (g ∙ ap (λ c. RoundSum.cross K lambda c * a) (RoundSumLaws.values_nil F pq) ∙ sym (RoundSumLaws.claim_last F lambda _ pq a e), refl)
  unique_check f h xi lambda rhos [] (x ∷ left) claim a t n e g = absurd (suc-ne-zero _ (sym n))
  unique_check f h xi lambda rhos (s ∷ polys) [] claim a t n e g = absurd (suc-ne-zero _ n)
  unique_check f h xi lambda rhos (s ∷ polys) (x ∷ left) claim a t n e g =
      let k = length left in
      let t₁ = Sumcheck.observe_cubic F S s t in
      let rho = draw t₁ in
      let w = bound F (Table.weight K xi) rhos in
      let pq = bound_claims F (children f h) rhos in
      let C = check polys left (next_claim F claim s rho) (a * Forms.agree K x rho) (drawn t₁) in
      go (decide_message K D claim (true_sum F f h (suc k) xi lambda rhos) s (true_message F f h k xi lambda rhos))
      (λ (m : Cubic R). let u = Sumcheck.observe_cubic F S m t in m ∷ (sub_send k lambda (Table.fold K w (draw u)) (RoundSum.folded K pq (draw u)) (drawn u)).polys)
      (λ b. ap (λ ps. s ∷ ps) b)
      (unique_check f h xi lambda (rho ∷ rhos) polys left (next_claim F claim s rho) (a * Forms.agree K x rho) (drawn t₁) (suc_inj n)
      (ap (λ d. Table.fold K d rho) e ∙ fun_ext (TableLaws.fold_weight K a x rho left))
      (g ∙ ap (λ c. RoundSum.cross K lambda c * C.eq) (RoundSumLaws.values_fold F pq rho C.point)))
    where
      go : {A B E N : Type 0} {m : Cubic R} {ps : List (Cubic R)} → Dec (A × (s ≡ m)) → (list : Cubic R → List (Cubic R)) → (E → ps ≡ list s) → (B × E) ⊎ N
          → (A × (ps ≡ list m)) ⊎ (((¬ (A × (s ≡ m))) × B) ⊎ N)
      go (yes p) list same (inl q) = inl (p.0, same q.1 ∙ ap list p.1)
      go (no p) list same (inl q) = inr (inl (p, q.0))
      go d list same (inr q) = inr (inr q)

  -- ONE LAYER: the old claims are true, and so is all that was sent from here on

  record Layer (f : ℕ → Frac R) (h : ℕ) (v : Frac R) (xi : List R) (t : Log) (polyss : List (List (Cubic R))) (cs : List (Claims R)) : Type 0 where
    holds : v ≡ true_claims F f h xi
    polys : polyss ≡ (send f h xi t).polys
    claims : cs ≡ (send f h xi t).claims

  -- the batched claim is the true one
  abbrev Sums : (ℕ → Frac R) → ℕ → Frac R → List R → Log → Type 0
  Sums f h v xi t = batched F v (draw t) ≡ batched F (true_claims F f (suc h) xi) (draw t)

  -- and so are the sub-rounds' messages
  abbrev Sent : (ℕ → Frac R) → ℕ → Frac R → List R → Log → List (Cubic R) → Type 0
  Sent f h v xi t polys =
      (batched F v (draw t) ≡ true_sum F f h (length xi) xi (draw t) [])
      × (polys ≡ (sub_send (length xi) (draw t) (Table.weight K xi) (children f h) (drawn t)).polys)

  layer_from : (f : ℕ → Frac R) (h : ℕ) (v : Frac R) (xi : List R) (t : Log) (polys : List (Cubic R)) (polyss : List (List (Cubic R))) (c : Claims R) (cs : List (Claims R))
      → let C = check polys xi (batched F v (draw t)) one (drawn t) in
      let t₂ = Gkr.observe_layer_claims F S c C.log in
      v ≡ true_claims F f (suc h) xi
      → Sent f h v xi t polys
      → c ≡ true_children F f h C.point
      → (polyss ≡ (send f h (draw t₂ ∷ C.point) (drawn t₂)).polys) × (cs ≡ (send f h (draw t₂ ∷ C.point) (drawn t₂)).claims)
      → Layer f (suc h) v xi t (polys ∷ polyss) (c ∷ cs)
  unfolding Gkr.send
  layer_from f h v xi t polys polyss c cs true_v true_polys true_c later =
      let lambda = draw t in
      let claim = batched F v lambda in
      let g = children f h in
      let P = sub_send (length xi) lambda (Table.weight K xi) g (drawn t) in
      let C = check polys xi claim one (drawn t) in
      let H = SumcheckLaws.honest F S xi lambda (Table.weight K xi) g (drawn t) one claim (whole_eq F S xi) true_polys.0 in
      let logs : C.log ≡ P.log = ap (λ x. (check x xi claim one (drawn t)).log) true_polys.1 ∙ H.logs in
      let points : C.point ≡ P.point = ap (λ x. (check x xi claim one (drawn t)).point) true_polys.1 ∙ H.points in
      let lasts : c ≡ P.last = true_c ∙ ap (RoundSum.values K g) points ∙ sym H.lasts in
      record {
        holds = true_v;
        polys = (λ i. true_polys.1 i ∷ later.0 i) ∙ (λ i. let u = Gkr.observe_layer_claims F S (lasts i) (logs i) in P.polys ∷ (send f h (draw u ∷ points i) (drawn u)).polys);
        claims = (λ i. lasts i ∷ later.1 i) ∙ (λ i. let u = Gkr.observe_layer_claims F S (lasts i) (logs i) in P.last ∷ (send f h (draw u ∷ points i) (drawn u)).claims);
      }

  unique_layers : (f : ℕ → Frac R) (polyss : List (List (Cubic R))) (cs : List (Claims R)) (v : Frac R) (xi : List R) (t : Log)
      → length polyss ≡ length cs
      → Accepts F S f (Gkr.rounds F S polyss cs v xi t)
      → Layer f (length polyss) v xi t polyss cs ⊎ Some (slipped F f) (layer_challenges F S polyss cs v xi t)
  unfolding Gkr.rounds Gkr.send layer_challenges Tree.tree
  unique_layers f [] [] v xi t n g = inl (record { holds = g; polys = refl; claims = refl })
  unique_layers f [] (c ∷ cs) v xi t n g = absurd (suc-ne-zero _ (sym n))
  unique_layers f (polys ∷ polyss) [] v xi t n g = absurd (suc-ne-zero _ n)
  unique_layers f (polys ∷ polyss) (c ∷ cs) v xi t n g =
      let h = length polyss in
      let lambda = draw t in
      let C = check polys xi (batched F v lambda) one (drawn t) in
      let t₂ = Gkr.observe_layer_claims F S c C.log in
      let mu = draw t₂ in
      let Rest = Layer f h (reduce c mu) (mu ∷ C.point) (drawn t₂) polyss cs in
      let counts = passed F S f (eqb (length polys) (length xi)) _ _ (λ x. x) g in
      let sums = passed F S f (same (RoundSum.cross K lambda c * C.eq) C.claim) _ _ (λ x. x) counts.1 in
      let rest = unique_layers f polyss cs (reduce c mu) (mu ∷ C.point) (drawn t₂) (suc_inj n) sums.1 in
      let ends =
      doubting (decide_claims K D c (true_children F f h C.point))
      (onto {B = (reduce c mu ≡ reduce (true_children F f h C.point) mu) × Layer f h (reduce c mu) (mu ∷ C.point) (drawn t₂) polyss cs} rest
      (λ k. (k.holds ∙ sym (TreeLaws.reduce_value K (Tree.tree K f h) mu C.point), k))) in
      let all =
      meet {B = (c ≡ true_children F f h C.point) × Rest} {C = Sums f h v xi t × (Sent f h v xi t polys × ((c ≡ true_children F f h C.point) × Rest))}
      (slipped F f) (subround_challenges F S h xi lambda [] polys xi (batched F v lambda) (drawn t))
      (record { step = joining h C.point c; challenge = mu } ∷ layer_challenges F S polyss cs (reduce c mu) (mu ∷ C.point) (drawn t₂)) ends
      (λ b. onto (unique_check f h xi lambda [] polys xi (batched F v lambda) one (drawn t) (eqb-true _ _ counts.0) (whole_eq F S xi)
      (sym (exact _ _ sums.0) ∙ ap (λ c. RoundSum.cross K lambda c * C.eq) b.0))
      (λ k. (k.0 ∙ sym (TreeLaws.claim_total K (Tree.tree K f h) lambda xi), (k, b)))) in
      onto (doubting (decide_frac K D v (true_claims F f (suc h) xi)) all)
      (λ k. layer_from f h v xi t polys polyss c cs k.0 k.1.0 k.1.1.0 (k.1.1.1.polys, k.1.1.1.claims))

  -- the sum is zero, and the proof is the honest one
  abbrev pub Honest : (f : ℕ → Frac R) (m : ℕ) (π : Proof R) (t : Log) → Type 0
  Honest f m π t = let P = Gkr.run F S m f t in (P.sum.p ≡ nil) × (π ≡ P.proof)

  unique_root : (f : ℕ → Frac R) (q0 : R) (c : Claims R) (cs : List (Claims R)) (polyss : List (List (Cubic R))) (t : Log)
      → length polyss ≡ length cs
      → Accepts F S f (Gkr.root F S q0 c cs polyss t)
      → Honest f (length polyss) (record { q0 = q0; claims = c ∷ cs; polys = polyss }) t ⊎ Some (slipped F f) (root_challenges F S q0 (c ∷ cs) polyss t)
  unfolding Gkr.root Gkr.run root_challenges Tree.tree
  unique_root f q0 c cs polyss t n g =
      let h = length polyss in
      let t₁ = Gkr.observe_layer_claims F S c (observe q0 t) in
      let mu = draw t₁ in
      let zero = passed F S f (same (sum c).p nil) _ _ (λ x. x) g in
      let denominator = passed F S f (same (sum c).q q0) _ _ (λ x. x) zero.1 in
      let ends =
      doubting (decide_claims K D c (true_children F f h []))
      (onto {B = (reduce c mu ≡ reduce (true_children F f h []) mu) × Layer f h (reduce c mu) (mu ∷ []) (drawn t₁) polyss cs}
      (unique_layers f polyss cs (reduce c mu) (mu ∷ []) (drawn t₁) n denominator.1)
      (λ k. (k.holds ∙ sym (TreeLaws.reduce_value K (Tree.tree K f h) mu []), k))) in
      onto ends (λ k.
      let e : c ≡ children f h 0 = k.0 ∙ RoundSumLaws.values_nil F (children f h) in
      let d : q0 ≡ (sum (children f h 0)).q = sym (exact _ _ denominator.0) ∙ ap (λ x. (sum x).q) e in (
        ap (λ x. (sum x).p) (sym e) ∙ exact _ _ zero.0,
        (λ i. record { q0 = q0; claims = c ∷ k.1.claims i; polys = k.1.polys i })
            ∙ (λ i. let u = Gkr.observe_layer_claims F S (e i) (observe (d i) t) in let Q = send f h (draw u ∷ []) (drawn u) in record { q0 = d i; claims = e i ∷ Q.claims; polys = Q.polys }),
      ))

  unique_counted : (f : ℕ → Frac R) (m : ℕ) (q0 : R) (cs : List (Claims R)) (polyss : List (List (Cubic R))) (t : Log)
      → Accepts F S f (Gkr.counted F S m q0 cs polyss t)
      → Honest f m (record { q0 = q0; claims = cs; polys = polyss }) t ⊎ Some (slipped F f) (root_challenges F S q0 cs polyss t)
  unfolding Gkr.counted
  unique_counted f m q0 [] polyss t g = absurd g
  unique_counted f m q0 (c ∷ cs) polyss t g =
      let claims = passed F S f (eqb (length cs) m) _ _ (λ x. x) g in
      let polys = passed F S f (eqb (length polyss) m) _ _ (λ x. x) claims.1 in
      let k = eqb-true _ _ polys.0 in
      subst (λ j. Honest f j (record { q0 = q0; claims = c ∷ cs; polys = polyss }) t ⊎ Some (slipped F f) (root_challenges F S q0 (c ∷ cs) polyss t)) k
      (unique_root f q0 c cs polyss t (k ∙ sym (eqb-true _ _ claims.0)) polys.1)

  -- THE THEOREM
  pub unique : (f : ℕ → Frac R) (m : ℕ) (π : Proof R) (t : Log)
      → Accepts F S f (Gkr.verify_gkr F S (suc m) π t)
      → Honest f m π t ⊎ Some (slipped F f) (challenges F S π t)
  unfolding Gkr.verify_gkr
  unique f m π t g = unique_counted f m π.q0 π.claims π.polys t g
