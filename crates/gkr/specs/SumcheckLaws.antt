-- The verifier of a layer's sumcheck follows the honest prover.
-- Assumes nothing.
use Rattle.std.specs.Prelude.{◌≡◌, refl}
use Rattle.std.proofs.Math.Path.{sym, ap, ap₂, fun_ext}
use Rattle.std.proofs.Common.{◌∙◌, suc-ne-zero}
use mathlib.Core.List.{List, [], ◌∷◌, ◌++◌, append_assoc}
use Prim.Native.Nat.{ℕ, suc}
use Rattle.std.proofs.Math.Nat.{suc_inj}
use Rattle.std.proofs.Math.ListN.{length}
use Rattle.ring.specs.Field.{Field}
use Rattle.multilinear.specs.Forms
use Rattle.multilinear.specs.Table
use Rattle.multilinear.proofs.TableLaws
use Rattle.multilinear.specs.Interpolate
use Rattle.multilinear.specs.RoundSum
use Rattle.multilinear.specs.RoundSum.{Claims}
use Rattle.multilinear.proofs.RoundSumLaws
use Rattle.gkr.specs.Run.{Transcript, Cubic}
use Rattle.gkr.specs.Sumcheck

module _ (F : Field) (S : Transcript F.ring.carrier) where
  open F use {ring as K}
  open F.ring use {carrier as R, add as ◌+◌, mul as ◌*◌, nil, one}
  open S use {Log, observe, draw, drawn}

  infixl 65 ◌+◌ ◌-◌
  infixl 70 ◌*◌
  abbrev ◌-◌ : R → R → R
  ◌-◌ = Forms.◌-◌ K

  abbrev fold : (ℕ → R) → R → ℕ → R
  fold = Table.fold K

  abbrev weight : List R → ℕ → R
  weight = Table.weight K

  abbrev folded : (ℕ → Claims R) → R → ℕ → Claims R
  folded = RoundSum.folded K

  abbrev values : (ℕ → Claims R) → List R → Claims R
  values = RoundSum.values K

  abbrev cross : R → Claims R → R
  cross = RoundSum.cross K

  abbrev total : ℕ → R → (ℕ → R) → (ℕ → Claims R) → R
  total = RoundSum.total K

  abbrev observe_cubic : Cubic R → Log → Log
  observe_cubic = Sumcheck.observe_cubic F S

  abbrev message : ℕ → R → (ℕ → R) → (ℕ → Claims R) → Cubic R
  message = Sumcheck.message F S

  abbrev Sent : Type 0
  Sent = Sumcheck.Sent F S

  abbrev Checked : Type 0
  Checked = Sumcheck.Checked F S

  abbrev send : ℕ → R → (ℕ → R) → (ℕ → Claims R) → Log → Sent
  send = Sumcheck.send F S

  abbrev verify_gkr_sumcheck : List (Cubic R) → List R → R → R → Log → Checked
  verify_gkr_sumcheck = Sumcheck.verify_gkr_sumcheck F S

  -- what the verifier multiplies up is eq of the old point and the new
  pub check_eq : (polys : List (Cubic R)) (xi : List R) (claim eq : R) (t : Log) → length polys ≡ length xi
      → let C = verify_gkr_sumcheck polys xi claim eq t in C.eq ≡ eq * Table.eq K xi C.point
  unfolding Sumcheck.verify_gkr_sumcheck Table.eq
  check_eq [] [] claim eq t e = sym (K.mul_one eq)
  check_eq [] (x ∷ xi) claim eq t e = absurd (suc-ne-zero _ (sym e))
  check_eq (s ∷ polys) [] claim eq t e = absurd (suc-ne-zero _ e)
  check_eq (s ∷ polys) (x ∷ xi) claim eq t e = check_eq polys xi _ _ _ (suc_inj e) ∙ K.mul_assoc eq _ _

  -- AS LOOPS: one turn moves a message and a challenge from what is still to come to what is there

  abbrev pub after : List (Cubic R) → List R → Sent → Sent
  after polys rhos P = record { polys = polys ++ P.polys; point = rhos ++ P.point; last = P.last; log = P.log }

  pub send_turn : (polys : List (Cubic R)) (rhos : List R) (k : ℕ) (lambda : R) (eq : ℕ → R) (pq : ℕ → Claims R) (t : Log)
      → let s = message k lambda eq pq in
      let t₁ = observe_cubic s t in
      let rho = draw t₁ in
      after polys rhos (send (suc k) lambda eq pq t) ≡ after (polys ++ (s ∷ [])) (rhos ++ (rho ∷ [])) (send k lambda (fold eq rho) (folded pq rho) (drawn t₁))
  unfolding Sumcheck.send
  send_turn polys rhos k lambda eq pq t =
      let s = message k lambda eq pq in
      let t₁ = observe_cubic s t in
      let rho = draw t₁ in
      let rest = send k lambda (fold eq rho) (folded pq rho) (drawn t₁) in
      ap₂ (λ ps pt. record { polys = ps; point = pt; last = rest.last; log = rest.log }) (sym (append_assoc polys (s ∷ []) rest.polys)) (sym (append_assoc rhos (rho ∷ []) rest.point))

  -- THE HONEST RUN

  pub record Honest (k : ℕ) (lambda : R) (pq : ℕ → Claims R) (P : Sent) (C : Checked) : Type 0 where
    pub logs : C.log ≡ P.log
    pub points : C.point ≡ P.point
    pub count : length P.polys ≡ k
    pub lasts : P.last ≡ values pq P.point
    pub holds : cross lambda P.last * C.eq ≡ C.claim

  pub honest : (xi : List R) (lambda : R) (eq : ℕ → R) (pq : ℕ → Claims R) (t : Log) (a claim : R)
      → eq ≡ (λ y. a * weight xi y)
      → claim ≡ total (length xi) lambda eq pq
      → let P = send (length xi) lambda eq pq t in Honest (length xi) lambda pq P (verify_gkr_sumcheck P.polys xi claim a t)
  unfolding Sumcheck.send Sumcheck.verify_gkr_sumcheck
  honest [] lambda eq pq t a claim heq hc = record {
    logs = refl;
    points = refl;
    count = refl;
    lasts = sym (RoundSumLaws.values_nil F pq);
    holds = sym (hc ∙ RoundSumLaws.claim_last F lambda eq pq a heq);
  }
  honest (x ∷ xi) lambda eq pq t a claim heq hc =
      let k = length xi in
      let s = message k lambda eq pq in
      let t₁ = observe_cubic s t in
      let rho = draw t₁ in
      let ih =
      honest xi lambda (fold eq rho) (folded pq rho) (drawn t₁) (a * Forms.agree K x rho)
      (Interpolate.cubic F (claim - s.at1) s.at1 s.at2 s.at3 rho)
      (ap (λ d. fold d rho) heq ∙ fun_ext (TableLaws.fold_weight K a x rho xi))
      (RoundSumLaws.claim_step F k lambda eq pq claim rho hc) in
      record {
        logs = ih.logs;
        points = ap (λ rhos. rho ∷ rhos) ih.points;
        count = ap suc ih.count;
        lasts = ih.lasts ∙ sym (RoundSumLaws.values_fold F pq rho _);
        holds = ih.holds;
      }
