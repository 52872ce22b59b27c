-- The soundness error of the verifier that keeps a log of words, with challenges that are supplied in order: as many sequences of them as the bound says.
-- Assumes nothing.
use Rattle.std.specs.Prelude.{ℕ, zero, suc, ◌≤◌, ◌*◌, ◌^◌, ◌≡◌, refl, Bool, true, List, [], ◌∷◌, length, get_or, drop}
use Rattle.std.proofs.Common.{sym}
use Rattle.std.proofs.Math.Path.{subst}
use Rattle.ring.specs.Field.{Field}
use Rattle.gkr.specs.Run.{Transcript, Frac}
use Rattle.gkr.specs.Gkr
use Rattle.gkr.specs.Sizes.{challenges}
use Rattle.gkr.specs.Transcripts.{empty, drawing}
use Rattle.domain.specs.Field.{Domain}
use Rattle.soundness.specs.Few.{Distinct}
use Rattle.soundness.specs.Challenges.{Accepts, RootIs}
use Rattle.soundness.specs.Tally.{tally}
use Rattle.soundness.specs.Errors.{errors}
use Rattle.soundness.specs.Provers.{coins, Prover, Adaptive}
use Rattle.soundness.proofs.Counted.{soundness_of}
use Rattle.soundness.specs.Carry.{Carries, verify_to, carried_accepts}

drop_suc : {A : Type 0} (n : ℕ) (cs : List A) → drop (suc n) cs ≡ drop 1 (drop n cs)
drop_suc zero cs = refl
drop_suc (suc n) [] = refl
drop_suc (suc n) (x ∷ cs) = drop_suc n cs

get_d_drop : {A : Type 0} (none : A) (n : ℕ) (cs : List A) → get_or cs n none ≡ get_or (drop n cs) 0 none
get_d_drop none zero cs = refl
get_d_drop none (suc n) [] = refl
get_d_drop none (suc n) (x ∷ cs) = get_d_drop none n cs

module _ (F : Field) (words : F.ring.carrier → List ℕ) where
  open F use {same}
  open F.ring use {carrier as R, nil}

  -- a log of words, and challenges from a list
  abbrev pub given : List R → Transcript R
  given cs = drawing words (λ t. get_or cs t.used nil)

  carries : (cs : List R) → Carries (given cs) (coins F)
  carries cs = record { to = λ t. drop t.used cs; observes = λ x t. refl; draws = λ t. get_d_drop nil t.used cs; drawns = λ t. drop_suc t.used cs }

  module _ (D : Domain F.ring) (exact : (x y : R) → same x y ≡ true → x ≡ y) where
    -- a test that is passed only where this verifier accepts with claims that are true of f, though the root is not (0, q0)
    pub supplied_soundness : (f : ℕ → Frac R) (m : ℕ) (σ : Prover F) → Adaptive F f m σ
        → (p : List R → Bool) → ((cs : List R) → p cs ≡ true → Accepts F (given cs) f (Gkr.verify_gkr F (given cs) (suc m) (σ cs) empty) × ¬ RootIs F f (suc m) (σ cs).q0)
        → (X : List R) → Distinct X → let n = challenges (suc m) in tally X n p * length X ≤ errors m * length X ^ n
    unfolding carries
    supplied_soundness f m σ a p h =
        soundness_of F D exact f m σ a p
        (λ cs e. (
          subst (Accepts F (coins F) f) (sym (verify_to F (given cs) (coins F) (carries cs) m (σ cs) empty))
              (carried_accepts F (given cs) (coins F) (carries cs) f (Gkr.verify_gkr F (given cs) (suc m) (σ cs) empty) (h cs e).0),
          (h cs e).1,
        ))
