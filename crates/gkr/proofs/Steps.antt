-- The verifier's run in steps, each with its next challenge set apart; and what a log that a run leaves tells of the logs before it.
-- Assumes nothing.
use Rattle.std.specs.Prelude.{cond, List, ◌∷◌, ◌++◌, map, ℕ, suc, length}
use Rattle.ring.specs.Field.{Field}
use Rattle.multilinear.specs.Forms
use Rattle.multilinear.specs.Interpolate
use Rattle.multilinear.specs.RoundSum
use Rattle.multilinear.specs.RoundSum.{Claims}
use Rattle.gkr.specs.Run.{Transcript, Frac, Cubic}
use Rattle.gkr.specs.Tests.{either}
use Rattle.gkr.specs.Tree
use Rattle.gkr.specs.Sumcheck
use Rattle.gkr.specs.Gkr
use Rattle.gkr.specs.Gkr.{layer_check}
use Rattle.gkr.specs.Transcripts.{mark, Words, Source, drawing}
use Rattle.gkr.proofs.Keeps

module _ (F : Field) (words : F.ring.carrier → List ℕ) (s : Source F.ring.carrier) where
  abbrev R : Type 0
  R = F.ring.carrier

  abbrev T : Transcript R
  T = drawing words s

  -- the log after the challenge x
  abbrev pub after : (t : Words) (x : R) → Words
  after t x = record { log = t.log ++ map mark (words x); used = suc t.used }

  -- a sub-round, where rho is sampled
  abbrev pub sub_round : (m : Cubic R) (polys : List (Cubic R)) (x : R) (xi : List R) (claim eq : R) (t : Words) (rho : R) → Sumcheck.Checked F T
  sub_round m polys x xi claim eq t rho =
      let next = Interpolate.cubic F (Forms.◌-◌ F.ring claim m.at1) m.at1 m.at2 m.at3 rho in
      let rest = Sumcheck.verify_gkr_sumcheck F T polys xi next (F.ring.mul eq (Forms.agree F.ring x rho)) (after t rho) in
      record { claim = rest.claim; point = rho ∷ rest.point; eq = rest.eq; log = rest.log }

  -- the rounds after one with claims c, where mu is sampled
  abbrev pub onward : (polyss : List (List (Cubic R))) (cs : List (Claims R)) (c : Claims R) (rhos : List R) (t : Words) (mu : R) → Gkr.Verdict F T
  onward polyss cs c rhos t mu = Gkr.rounds F T polyss cs (Tree.reduce_to_single_evaluation F.ring c mu) (mu ∷ rhos) (after t mu)

  -- a round after its sub-rounds
  abbrev pub layer : (polyss : List (List (Cubic R))) (cs : List (Claims R)) (c : Claims R) (round : ℕ) (lambda : R) (C : Sumcheck.Checked F T) → Gkr.Verdict F T
  layer polyss cs c round lambda C =
      let t₂ = Gkr.observe_layer_claims F T c C.log in
      let expected = F.ring.mul (RoundSum.cross F.ring lambda c) C.eq in
      cond (F.same expected C.claim) (onward polyss cs c C.point t₂ (s t₂)) (layer_check round expected C.claim t₂)

  -- its sub-rounds, where lambda is sampled
  abbrev pub sub_rounds : (polys : List (Cubic R)) (v : Frac R) (xi : List R) (t : Words) (lambda : R) → Sumcheck.Checked F T
  sub_rounds polys v xi t lambda =
      Sumcheck.verify_gkr_sumcheck F T polys xi (F.ring.add v.p (F.ring.mul lambda v.q)) F.ring.one (after t lambda)

  -- the two, as many sub-rounds as there are to be
  abbrev pub full : (polys : List (Cubic R)) (polyss : List (List (Cubic R))) (cs : List (Claims R)) (c : Claims R) (v : Frac R) (xi : List R) (t : Words) (lambda : R) → Gkr.Verdict F T
  full polys polyss cs c v xi t lambda = layer polyss cs c (length xi) lambda (sub_rounds polys v xi t lambda)

  -- logs on a way: with a log, those before an observation and a challenge are on it too
  pub record Way : Type 1 where
    pub On : Words → Type 0
    pub observed : (x : R) (t : Words) → On (T.observe x t) → On t
    pub sampled : (t : Words) → On (T.drawn t) → On t

  module _ (W : Way) where
    -- the log that is left is on the way, where t was the log before the run
    abbrev pub Within : (t : Words) → Gkr.Verdict F T → Type 0
    Within t v = W.On (Gkr.log_after F T t v)

    pub claims_back : (c : Claims R) (t : Words) → W.On (Gkr.observe_layer_claims F T c t) → W.On t
    claims_back c t h = W.observed c.p0 t (W.observed c.q0 _ (W.observed c.p1 _ (W.observed c.q1 _ h)))

    pub check_back : (polys : List (Cubic R)) (xi : List R) (claim eq : R) (t : Words) → W.On (Sumcheck.verify_gkr_sumcheck F T polys xi claim eq t).log → W.On t
    check_back polys xi claim eq t = Keeps.check_keep F T (λ u. W.On u → W.On t) (λ x u h o. h (W.observed x u o)) (λ u h o. h (W.sampled u o)) polys xi claim eq t (λ o. o)

    pub rounds_back : (t₀ : Words) (polyss : List (List (Cubic R))) (cs : List (Claims R)) (v : Frac R) (xi : List R) (t : Words) → Within t₀ (Gkr.rounds F T polyss cs v xi t) → W.On t
    rounds_back t₀ polyss cs v xi t = Keeps.rounds_keep F T (λ u. W.On u → W.On t) (λ x u h o. h (W.observed x u o)) (λ u h o. h (W.sampled u o)) t₀ polyss cs v xi t (λ o. o)

    pub layer_back : (t₀ : Words) (polyss : List (List (Cubic R))) (cs : List (Claims R)) (c : Claims R) (round : ℕ) (lambda : R) (C : Sumcheck.Checked F T)
        → Within t₀ (layer polyss cs c round lambda C) → W.On C.log
    layer_back t₀ polyss cs c round lambda C =
        let t₂ = Gkr.observe_layer_claims F T c C.log in
        let expected = F.ring.mul (RoundSum.cross F.ring lambda c) C.eq in
        either (λ w. Within t₀ w → W.On C.log) (F.same expected C.claim) (onward polyss cs c C.point t₂ (s t₂)) (layer_check round expected C.claim t₂)
        (λ _ o. claims_back c C.log (W.sampled t₂ (rounds_back t₀ polyss cs (Tree.reduce_to_single_evaluation F.ring c (s t₂)) (s t₂ ∷ C.point) (T.drawn t₂) o)))
        (λ _ o. claims_back c C.log o)
