-- The whole run over n rounds: prover (fractional_sumcheck) and verifier (verify_gkr) as the Rust runs them.
-- Assumes nothing.
use Rattle.std.specs.Prelude.{Bool, true, false, cond, List, [], ◌∷◌, ℕ, zero, suc, length, eqb}
use Rattle.ring.specs.Field.{Field}
use Rattle.multilinear.specs.Table
use Rattle.multilinear.specs.RoundSum
use Rattle.multilinear.specs.RoundSum.{Claims}
use Rattle.gkr.specs.Run.{Transcript, Frac, Cubic, Proof}
use Rattle.gkr.specs.Tree
use Rattle.gkr.specs.Sumcheck

module _ (F : Field) where
  open F use {ring as K, same}
  open F.ring use {carrier as R, add as ◌+◌, mul as ◌*◌, nil, one}

  infixl 65 ◌+◌
  infixl 70 ◌*◌
  module _ (S : Transcript R) where
    open S use {Log, observe, draw, drawn}

    -- p0, q0, p1, q1, in this order
    abbrev pub observe_layer_claims : (c : Claims R) (t : Log) → Log
    observe_layer_claims c t = observe c.q1 (observe c.p1 (observe c.q0 (observe c.p0 t)))

    -- THE PROVER

    -- what the layers after layer 0 give: their claims and polynomials, the last point
    pub record Sent : Type 0 where
      pub claims : List (Claims R)
      pub polys : List (List (Cubic R))
      pub point : List R
      pub log : Log

    -- the last h layers over the rows f, from the old point xi; a layer's number is the length of xi. Each: lambda, the sub-rounds, the claims, mu; the new point is mu, then each rho.
    unfoldable pub send : (f : ℕ → Frac R) (h : ℕ) (xi : List R) (t : Log) → Sent
    send f zero xi t = record { claims = []; polys = []; point = xi; log = t }
    send f (suc h) xi t =
        let lambda = draw t in
        let sub = Sumcheck.send F S (length xi) lambda (Table.weight K xi) (Tree.children K (Tree.tree K f h)) (drawn t) in
        let t₁ = observe_layer_claims sub.last sub.log in
        let mu = draw t₁ in
        let rest = send f h (mu ∷ sub.point) (drawn t₁) in
        record { claims = sub.last ∷ rest.claims; polys = sub.polys ∷ rest.polys; point = rest.point; log = rest.log }

    -- what the prover gives: the root, the proof, the point
    pub record Proved : Type 0 where
      pub sum : Frac R
      pub proof : Proof R
      pub point : List R
      pub log : Log

    -- n = suc m rounds over 2^n rows f, from the log t, in which root p is already if it is observed: root q, layer 0, mu, the other layers
    unfoldable pub run : (m : ℕ) (f : ℕ → Frac R) (t : Log) → Proved
    run m f t =
        let root = Tree.tree K f (suc m) 0 in
        let c = Tree.children K (Tree.tree K f m) 0 in
        let t₁ = observe_layer_claims c (observe root.q t) in
        let mu = draw t₁ in
        let rest = send f m (mu ∷ []) (drawn t₁) in
        record { sum = root; proof = record { q0 = root.q; claims = c ∷ rest.claims; polys = rest.polys }; point = rest.point; log = rest.log }

    -- no rows: the sum is (0, 1), and nothing is observed or sampled
    abbrev pub no_rows : (t : Log) → Proved
    no_rows t = record { sum = record { p = nil; q = one }; proof = record { q0 = one; claims = []; polys = [] }; point = []; log = t }

    pub data Answer : Type 0 where
      done : Proved → Answer
      non_zero_root_sum : Answer

    -- n = suc m rounds over 2^n rows f. Zero asserted: root p has to be 0, and is not observed. Not asserted: root p is observed first.
    unfoldable pub fractional_sumcheck : (asserted : Bool) (m : ℕ) (f : ℕ → Frac R) (t : Log) → Answer
    fractional_sumcheck true m f t = cond (same (Tree.tree K f (suc m) 0).p nil) (done (run m f t)) non_zero_root_sum
    fractional_sumcheck false m f t = done (run m f (observe (Tree.tree K f (suc m) 0).p t))

    -- THE VERIFIER

    -- what the verifier answers, with document 01's number; 16 to 19 with the log until then
    pub data Verdict : Type 0 where
      accepted : (claims : Frac R) (point : List R) (log : Log) → Verdict  -- 0
      zero_rounds : Verdict  -- 10
      layer_count : (expected actual : ℕ) → Verdict  -- 14
      poly_count : (expected actual : ℕ) → Verdict  -- 15
      zero_check : (actual : R) (log : Log) → Verdict  -- 16
      root_check : (expected actual : R) (log : Log) → Verdict  -- 17
      subround_count : (round expected actual : ℕ) (log : Log) → Verdict  -- 18
      layer_check : (round : ℕ) (expected actual : R) (log : Log) → Verdict  -- 19

    -- the log that a verdict leaves, t before it: 10, 14 and 15 change nothing
    abbrev pub log_after : (t : Log) (v : Verdict) → Log
    log_after t (accepted v xi u) = u
    log_after t zero_rounds = t
    log_after t (layer_count expected actual) = t
    log_after t (poly_count expected actual) = t
    log_after t (zero_check actual u) = u
    log_after t (root_check expected actual u) = u
    log_after t (subround_count round expected actual u) = u
    log_after t (layer_check round expected actual u) = u

    -- the rounds after round 0, from the claims v at the old point xi; a round's number is the length of xi. Both lists are of one length (counted).
    unfoldable pub rounds : (polyss : List (List (Cubic R))) (cs : List (Claims R)) (v : Frac R) (xi : List R) (t : Log) → Verdict
    rounds [] cs v xi t = accepted v xi t
    rounds (polys ∷ polyss) [] v xi t = accepted v xi t
    rounds (polys ∷ polyss) (c ∷ cs) v xi t =
        let round = length xi in
        let lambda = draw t in
        let t₁ = drawn t in
        let sub = Sumcheck.verify_gkr_sumcheck F S polys xi (v.p + lambda * v.q) one t₁ in
        let t₂ = observe_layer_claims c sub.log in
        let expected = RoundSum.cross K lambda c * sub.eq in
        let mu = draw t₂ in
        let next = rounds polyss cs (Tree.reduce_to_single_evaluation K c mu) (mu ∷ sub.point) (drawn t₂) in
        let layer = cond (same expected sub.claim) next (layer_check round expected sub.claim t₂) in
        cond (eqb (length polys) round) layer (subround_count round round (length polys) t₁)

    -- round 0: the sum of the two fractions claimed; its numerator has to be 0, then its denominator q0; then the other rounds
    unfoldable pub root : (q0 : R) (c : Claims R) (cs : List (Claims R)) (polyss : List (List (Cubic R))) (t : Log) → Verdict
    root q0 c cs polyss t =
        let t₁ = observe_layer_claims c (observe q0 t) in
        let sum = Tree.compute_recursive_relations K c in
        let mu = draw t₁ in
        let next = rounds polyss cs (Tree.reduce_to_single_evaluation K c mu) (mu ∷ []) (drawn t₁) in
        let denominator = cond (same sum.q q0) next (root_check q0 sum.q t₁) in
        cond (same sum.p nil) denominator (zero_check sum.p t₁)

    -- the two counts for n = suc m rounds: n layers, then m polynomial entries; then round 0
    unfoldable pub counted : (m : ℕ) (q0 : R) (claims : List (Claims R)) (polyss : List (List (Cubic R))) (t : Log) → Verdict
    counted m q0 [] polyss t = layer_count (suc m) 0
    counted m q0 (c ∷ cs) polyss t =
        let polys = cond (eqb (length polyss) m) (root q0 c cs polyss t) (poly_count m (length polyss)) in
        cond (eqb (length cs) m) polys (layer_count (suc m) (suc (length cs)))

    -- verify_gkr, n rounds
    unfoldable pub verify_gkr : (n : ℕ) (π : Proof R) (t : Log) → Verdict
    verify_gkr zero π t = zero_rounds
    verify_gkr (suc m) π t = counted m π.q0 π.claims π.polys t
