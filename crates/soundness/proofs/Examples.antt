-- The bound is met: a false proof of two rows 1/1 and 1/1, whose sum is 2/1, cheats with one challenge of three. And the errors of ten rounds.
-- Assumes nothing.
use Rattle.std.specs.Prelude.{◌≡◌, refl, cond, List, [], ◌∷◌, ℕ, ◌+◌, ◌*◌, ◌^◌, ◌≤◌, length}
use Rattle.std.proofs.Common.{ap, arith}
use Rattle.std.proofs.Math.Bridge.{le_by_compare, IsLe}
use Rattle.field.specs.Base.{P}
use Rattle.field.specs.Ext.{Ext}
use Rattle.field.specs.ExtRing.{arithmetic}
use Rattle.field.specs.Extension.{Extension}
use Rattle.multilinear.specs.RoundSum.{Claims}
use Rattle.gkr.specs.Run.{Frac}
use Rattle.gkr.specs.Sizes.{challenges}
use Rattle.gkr.specs.Compute.{model, el, minus, frac, claims}
use Rattle.domain.proofs.Extension.{ext_domain}
use Rattle.soundness.specs.Steps.{joining}
use Rattle.soundness.specs.Challenges.{root_challenges, layer_challenges}
use Rattle.soundness.specs.Tally.{sum_over, tally}
use Rattle.soundness.specs.TallyLaws.{test_true, test_false}
use Rattle.soundness.specs.Errors.{layer_places, places, added, errors}
use Rattle.soundness.specs.Provers.{along, coins, Prover, Adaptive, Cheats}
use Rattle.soundness.proofs.Counted.{decide_cheats}
use Rattle.soundness.proofs.Uniform.{cheats}

-- document 01's K6
abbrev ones : ℕ → Frac Ext
ones i = frac (el 1) (el 1)

-- 0 over 1, made of 1/1 and −1/1
abbrev falsehood : Claims Ext
falsehood = claims (el 1) (el 1) (minus 1) (el 1)

abbrev false_prover : Prover Extension
false_prover cs = record { q0 = el 1; claims = falsehood ∷ []; polys = [] }

does_not_look_ahead : Adaptive Extension ones 0 false_prover
unfolding root_challenges layer_challenges
does_not_look_ahead = record { table = λ before. joining 0 [] falsehood; follows = λ cs l a. one_challenge cs l }
  where
    one_challenge : (cs : List Ext) → length cs ≡ 1 → root_challenges Extension (coins Extension) (el 1) (falsehood ∷ []) [] cs ≡ along (λ before. joining 0 [] falsehood) cs
    one_challenge [] l = absurd (omega (arith, l))
    one_challenge (x ∷ []) l = refl
    one_challenge (x ∷ y ∷ cs) l = absurd (omega (arith, l))

-- with the challenge 0 it cheats
with_0 : Cheats Extension ones 0 false_prover (el 0 ∷ [])
unfolding model arithmetic
with_0 = (refl, λ r. let e : ◌≡◌ {A = ℕ} 2 0 = ap (λ a. a.c0.val) r.0 in omega (arith, e))

-- with others not: the claims are −9 and −13, and ought to be 1
not_with_5 : ¬ Cheats Extension ones 0 false_prover (el 5 ∷ [])
unfolding model arithmetic
not_with_5 c = let e : ◌≡◌ {A = ℕ} 2013265912 1 = ap (λ v. v.p.c0.val) c.0 in omega (arith, e)

not_with_7 : ¬ Cheats Extension ones 0 false_prover (el 7 ∷ [])
unfolding model arithmetic
not_with_7 c = let e : ◌≡◌ {A = ℕ} 2013265908 1 = ap (λ v. v.p.c0.val) c.0 in omega (arith, e)

-- one of three, and errors 0 is 1
pub bound_is_met : tally (el 0 ∷ el 5 ∷ el 7 ∷ []) (challenges 1) (cheats ones 0 false_prover) ≡ errors 0
unfolding tally sum_over places layer_places added
bound_is_met =
    let yes_0 = test_true (decide_cheats Extension ext_domain ones 0 false_prover (el 0 ∷ [])) with_0 in
    let no_5 = test_false (decide_cheats Extension ext_domain ones 0 false_prover (el 5 ∷ [])) not_with_5 in
    let no_7 = test_false (decide_cheats Extension ext_domain ones 0 false_prover (el 7 ∷ [])) not_with_7 in
    λ i. cond (yes_0 i) 1 0 + (cond (no_5 i) 1 0 + (cond (no_7 i) 1 0 + 0))

-- ten rounds: 64 challenges, and 154 errors out of P ^ 4
pub ten : (challenges 10 ≡ 64) × (errors 9 ≡ 154)
unfolding places layer_places added
ten = (refl, refl)

-- fewer than one in 10 ^ 35
pub ten_is_small : errors 9 * 10 ^ 35 ≤ P ^ 4
unfolding places layer_places added IsLe
ten_is_small = le_by_compare (errors 9 * 10 ^ 35) (P ^ 4) tt
