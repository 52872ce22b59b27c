-- The replay's call of the verifier is let through where the call that left the log was; a verdict of a run is not refused before it.
-- Assumes nothing.
use mathlib.Core.Path.{◌≡◌, refl, ◌∙◌, ap, ap₂}
use mathlib.Core.Bool.{Bool, true, false, not, ◌&&◌, ◌||◌, and-eq-true_iff, false≢true}
use mathlib.Core.Logic.{⊎_elim}
use mathlib.Core.List.{List}
use Prim.Native.Nat.{ℕ, zero, suc, ◌*◌, ◌≤◌}
use native.Mathlib.Nat.{eq-or-lt_of_le, le_of_suc-le-suc}
use native.Mathlib.Omega.{arith}
use lib.Dec.{leb}
use lib.ListN.{length}
use borrow.Author.Tests.{le-ltb, ltb-false, leb-true}
use Rattle.field.specs.CellLaws.{clean_take}
use Rattle.gkr.specs.Sizes.{challenges}
use Rattle.refusal.specs.Limits.{max_rounds}
use Rattle.refusal.specs.Tests.{passed, first_of}
use Rattle.refusal.specs.TestLaws.{all_passed, passed_all}
use Rattle.refusal.specs.TestWays.{both, each_way}
use Rattle.sizes.specs.Sizes.{needed_words, log_room}
use Rattle.stored.specs.Parse.{sized}
use Rattle.verifier.specs.Verified.{Asked, asked, tests, fronts}
use Rattle.log_replay.specs.Replayed.{most_words, challenges_of, of_run}
use Rattle.log_replay.proofs.Values.{clean_challenges, length_challenges, clean_canonical}

-- TESTED OF EVERY NUMBER OF ROUNDS

unfoldable up_to : (Q : ℕ → Bool) (k : ℕ) → Bool
up_to Q zero = Q 0
up_to Q (suc k) = Q (suc k) && up_to Q k

each_up_to : (Q : ℕ → Bool) (k : ℕ) → up_to Q k ≡ true → (n : ℕ) → n ≤ k → Q n ≡ true
unfolding up_to
each_up_to Q zero h n l = let e : n ≡ 0 = omega (arith, l) in ap Q e ∙ h
each_up_to Q (suc k) h n l =
    let w = (and-eq-true_iff (Q (suc k)) (up_to Q k)).0 h in
    ⊎_elim (λ e. ap Q e ∙ w.0) (λ b. each_up_to Q k w.1 n (le_of_suc-le-suc b)) (eq-or-lt_of_le l)

pub few_challenges : (n : ℕ) → n ≤ max_rounds → 4 * challenges n ≤ most_words
unfolding up_to
few_challenges n l = leb-true _ _ (each_up_to (λ n. leb (4 * challenges n) most_words) max_rounds refl n l)

few_words : (sized : Bool) (n : ℕ) → n ≤ max_rounds → log_room true sized n ≤ log_room true true max_rounds
unfolding up_to
few_words true n l = leb-true _ _ (each_up_to (λ n. leb (log_room true true n) (log_room true true max_rounds)) max_rounds refl n l)
few_words false n l = leb-true _ _ (each_up_to (λ n. leb (log_room true false n) (log_room true true max_rounds)) max_rounds refl n l)

few_needed : (drawn : Bool) (n : ℕ) → n ≤ max_rounds → needed_words drawn n ≤ most_words
few_needed true n l = omega arith
few_needed false n l = few_challenges n l

-- THE TESTS BEFORE THE RUN

module _ (a : Asked) (points logs : ℕ) where
  pub few_rounds : first_of (tests a points logs) ≡ passed → a.rounds ≤ max_rounds
  few_rounds h = ltb-false max_rounds a.rounds (passed_all (tests a points logs) h).1.0

  pub let_through : (log : List ℕ) (room : ℕ) → first_of (tests a points logs) ≡ passed → 4 * a.rounds ≤ room
      → first_of (tests (asked a.proof a.rounds a.modes (challenges_of log)) room (log_room true true max_rounds)) ≡ passed
  let_through log room h wide =
      let m = passed_all (tests a points logs) h in
      let l = few_rounds h in
      let c = challenges_of log in
      all_passed (tests (asked a.proof a.rounds a.modes c) room (log_room true true max_rounds))
      (both m.0
      (both m.1.0
      (both (le-ltb (length c) (needed_words a.modes.drawn a.rounds) (omega (arith, length_challenges log, few_needed a.modes.drawn a.rounds l)))
      (both m.1.1.1.0
      (both (ap₂ ◌||◌ (le-ltb room (4 * a.rounds) wide) (le-ltb (log_room true true max_rounds) (log_room true (sized a.proof) a.rounds) (few_words (sized a.proof) a.rounds l)))
      (both m.1.1.1.1.1.0
      (both m.1.1.1.1.1.1.0
      (both (ap not (clean_canonical _ (clean_take (needed_words a.modes.drawn a.rounds) c (clean_challenges log))))
      (both m.1.1.1.1.1.1.1.1.0 tt)))))))))

  -- a verdict of a run comes past them
  pub ran_passed : of_run (fronts a (first_of (tests a points logs))).answer ≡ true → first_of (tests a points logs) ≡ passed
  ran_passed =
      each_way (λ t. of_run (fronts a t).answer ≡ true → t ≡ passed) (tests a points logs) (
        λ _ h. absurd (false≢true h),
        λ _. (
          λ _ h. absurd (false≢true h),
          λ _. (
            λ _ h. absurd (false≢true h),
            λ _. (
              λ _ h. absurd (false≢true h),
              λ _. (
                λ _ h. absurd (false≢true h),
                λ _. (
                  λ _ h. absurd (false≢true h),
                  λ _. (
                    λ _ h. absurd (false≢true h),
                    λ _. (
                      λ _ h. absurd (false≢true h),
                      λ _.
                          (λ _ h. absurd (false≢true h), λ _ _. refl),
                    ),
                  ),
                ),
              ),
            ),
          ),
        ),
      )
