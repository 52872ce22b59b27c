-- One layer's sumcheck: prover and verifier as the Rust runs them.
-- Assumes nothing.
use Rattle.std.specs.Prelude.{List, [], ◌∷◌, ℕ, zero, suc}
use Rattle.ring.specs.Ring.{num}
use Rattle.ring.specs.Field.{Field}
use Rattle.multilinear.specs.Forms
use Rattle.multilinear.specs.Table
use Rattle.multilinear.specs.Interpolate
use Rattle.multilinear.specs.RoundSum
use Rattle.multilinear.specs.RoundSum.{Claims}
use Rattle.gkr.specs.Run.{Transcript, Cubic}

module _ (F : Field) where
  open F use {ring as K}
  open F.ring use {carrier as R, add as ◌+◌, mul as ◌*◌, one}

  infixl 65 ◌+◌ ◌-◌
  infixl 70 ◌*◌
  abbrev ◌-◌ : R → R → R
  ◌-◌ = Forms.◌-◌ K

  module _ (S : Transcript R) where
    open S use {Log, observe, draw, drawn}

    -- s(1), then s(2), then s(3)
    abbrev pub observe_cubic : (s : Cubic R) (t : Log) → Log
    observe_cubic s t = observe s.at3 (observe s.at2 (observe s.at1 t))

    -- THE PROVER

    -- what the sub-rounds give: the polynomials, each rho in order, the claims at the end
    pub record Sent : Type 0 where
      pub polys : List (Cubic R)
      pub point : List R
      pub last : Claims R
      pub log : Log

    -- s(1), s(2), s(3) over the column eq and the four columns pq, with k variables left after this sub-round
    abbrev pub message : (k : ℕ) (lambda : R) (eq : ℕ → R) (pq : ℕ → Claims R) → Cubic R
    message k lambda eq pq = record { at1 = RoundSum.s K k lambda eq pq one; at2 = RoundSum.s K k lambda eq pq (num K 2); at3 = RoundSum.s K k lambda eq pq (num K 3) }

    -- k sub-rounds: each observes its message, samples rho and folds all columns at rho
    unfoldable pub send : (k : ℕ) (lambda : R) (eq : ℕ → R) (pq : ℕ → Claims R) (t : Log) → Sent
    send zero lambda eq pq t = record { polys = []; point = []; last = pq 0; log = t }
    send (suc k) lambda eq pq t =
        let s = message k lambda eq pq in
        let t₁ = observe_cubic s t in
        let rho = draw t₁ in
        let rest = send k lambda (Table.fold K eq rho) (RoundSum.folded K pq rho) (drawn t₁) in
        record { polys = s ∷ rest.polys; point = rho ∷ rest.point; last = rest.last; log = rest.log }

    -- THE VERIFIER

    -- what the sub-rounds leave: the last claim, each rho in order, eq of the old point and the rhos
    pub record Checked : Type 0 where
      pub claim : R
      pub point : List R
      pub eq : R
      pub log : Log

    -- the sub-rounds along the old point xi: s(0) is the claim less s(1), the next claim is s(rho), eq takes in the agreement of xi's next and rho. Both lists are of one length (Gkr.rounds).
    unfoldable pub verify_gkr_sumcheck : (polys : List (Cubic R)) (xi : List R) (claim eq : R) (t : Log) → Checked
    verify_gkr_sumcheck [] xi claim eq t = record { claim = claim; point = []; eq = eq; log = t }
    verify_gkr_sumcheck (s ∷ polys) [] claim eq t = record { claim = claim; point = []; eq = eq; log = t }
    verify_gkr_sumcheck (s ∷ polys) (x ∷ xi) claim eq t =
        let t₁ = observe_cubic s t in
        let rho = draw t₁ in
        let next = Interpolate.cubic F (claim - s.at1) s.at1 s.at2 s.at3 rho in
        let rest = verify_gkr_sumcheck polys xi next (eq * Forms.agree K x rho) (drawn t₁) in
        record { claim = rest.claim; point = rho ∷ rest.point; eq = rest.eq; log = rest.log }
