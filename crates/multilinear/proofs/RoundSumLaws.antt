-- The laws of the round sum: s(0) + s(1) is the claim, and s is found from its values at 0, 1, 2, 3.
-- Assumes nothing.
use Rattle.std.specs.Prelude.{◌≡◌, List, [], ◌∷◌, ℕ, suc, ◌^◌}
use Rattle.std.proofs.Math.Path.{sym, ap, fun_ext}
use Rattle.std.proofs.Common.{◌∙◌, ap₂}
use Rattle.std.proofs.Math.Nat.{pow-succ'}
use Rattle.ring.specs.Ring.{num}
use Rattle.ring.specs.Field.{Field}
use Rattle.multilinear.specs.Forms
use Rattle.multilinear.specs.Identities
use Rattle.multilinear.specs.Table
use Rattle.multilinear.specs.Table.{even, odd}
use Rattle.multilinear.proofs.TableLaws
use Rattle.multilinear.specs.Interpolate
use Rattle.multilinear.proofs.InterpolateLaws
use Rattle.multilinear.specs.RoundSum
use Rattle.multilinear.specs.RoundSum.{Claims}

module _ (F : Field) where
  open F use {ring as K}
  open F.ring use {carrier as R, add as ◌+◌, mul as ◌*◌, nil, one}

  infixl 65 ◌+◌ ◌-◌
  infixl 70 ◌*◌
  abbrev ◌-◌ : R → R → R
  ◌-◌ = Forms.◌-◌ K

  abbrev fold : (ℕ → R) → R → ℕ → R
  fold = Table.fold K

  abbrev weight : List R → ℕ → R
  weight = Table.weight K

  abbrev each : {A : Type 0} → ((ℕ → R) → A) → (ℕ → Claims R) → Claims A
  each g pq = RoundSum.each K g pq

  abbrev folded : (ℕ → Claims R) → R → ℕ → Claims R
  folded = RoundSum.folded K

  abbrev values : (ℕ → Claims R) → List R → Claims R
  values = RoundSum.values K

  abbrev cross : R → Claims R → R
  cross = RoundSum.cross K

  abbrev total : ℕ → R → (ℕ → R) → (ℕ → Claims R) → R
  total = RoundSum.total K

  abbrev s : ℕ → R → (ℕ → R) → (ℕ → Claims R) → R → R
  s = RoundSum.s K

  pub values_nil : (pq : ℕ → Claims R) → values pq [] ≡ pq 0
  values_nil pq = λ i. each (λ t. TableLaws.value_nil K t i) pq

  pub values_fold : (pq : ℕ → Claims R) (rho : R) (zs : List R) → values pq (rho ∷ zs) ≡ values (folded pq rho) zs
  values_fold pq rho zs = λ i. each (λ t. TableLaws.value_fold K t rho zs i) pq

  fold_0 : (t : ℕ → R) → fold t nil ≡ (λ y. t (even y))
  unfolding Table.fold
  fold_0 t = fun_ext λ y. Identities.line_0 K _ _

  fold_1 : (t : ℕ → R) → fold t one ≡ (λ y. t (odd y))
  unfolding Table.fold
  fold_1 t = fun_ext λ y. Identities.line_1 K _ _

  -- THE POLYNOMIAL

  -- s(0) + s(1) is the running claim
  pub s_splits : (k : ℕ) (lambda : R) (eq : ℕ → R) (pq : ℕ → Claims R) → total (suc k) lambda eq pq ≡ s k lambda eq pq nil + s k lambda eq pq one
  unfolding RoundSum.total RoundSum.s
  s_splits k lambda eq pq =
      ap (λ n. Table.sum K n (λ y. eq y * cross lambda (pq y))) (pow-succ' 2 k)
      ∙ TableLaws.sum_pairs K (2 ^ k) _
      ∙ TableLaws.sum_add K (2 ^ k) _ _
      ∙ sym (ap₂ ◌+◌
      (λ i. total k lambda (fold_0 eq i) (λ y. each (λ t. fold_0 t i y) pq))
      (λ i. total k lambda (fold_1 eq i) (λ y. each (λ t. fold_1 t i y) pq)))

  -- s is found from its values at 0, 1, 2, 3
  pub s_through : (k : ℕ) (lambda : R) (eq : ℕ → R) (pq : ℕ → Claims R) (x : R) → Interpolate.through F (s k lambda eq pq) x ≡ s k lambda eq pq x
  unfolding RoundSum.s RoundSum.total Table.fold
  s_through k lambda eq pq x =
      InterpolateLaws.through_sum F (2 ^ k) (λ y v. fold eq v y * cross lambda (folded pq v y)) x
      (λ y. let a = pq (even y) in let b = pq (odd y) in
      InterpolateLaws.through_poly F (λ v. fold eq v y * cross lambda (folded pq v y)) _ _ _ _
      (Identities.summand K lambda (eq (even y)) (eq (odd y) - eq (even y))
      a.p0 (b.p0 - a.p0) a.q0 (b.q0 - a.q0) a.p1 (b.p1 - a.p1) a.q1 (b.q1 - a.q1)) x)

  -- the verifier's next claim is the sum over the folded columns
  pub claim_step : (k : ℕ) (lambda : R) (eq : ℕ → R) (pq : ℕ → Claims R) (claim rho : R) → claim ≡ total (suc k) lambda eq pq
      → let f = s k lambda eq pq in Interpolate.cubic F (claim - f one) (f one) (f (num K 2)) (f (num K 3)) rho ≡ total k lambda (fold eq rho) (folded pq rho)
  unfolding RoundSum.s
  claim_step k lambda eq pq claim rho hc =
      let f = s k lambda eq pq in
      ap (λ v. Interpolate.cubic F v (f one) (f (num K 2)) (f (num K 3)) rho)
      (ap (λ v. v - f one) (hc ∙ s_splits k lambda eq pq) ∙ Identities.cancel K (f nil) (f one))
      ∙ s_through k lambda eq pq rho

  -- after the last sub-round the claim is the cross term of the last claims, times eq (for the honest run and for soundness, with claim-total and reduce-value of the fraction tree)
  pub claim_last : (lambda : R) (eq : ℕ → R) (pq : ℕ → Claims R) (a : R) → eq ≡ (λ y. a * weight [] y) → total 0 lambda eq pq ≡ cross lambda (pq 0) * a
  unfolding RoundSum.total Table.sum Table.weight
  claim_last lambda eq pq a h = ap (λ t. nil + t 0 * cross lambda (pq 0)) h ∙ Identities.last K a (cross lambda (pq 0))
