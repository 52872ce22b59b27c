-- Where challenges are drawn, those lent are not read: no test asks for one, and the run takes none.
-- Assumes nothing.
use mathlib.Core.Path.{◌≡◌, refl, sym, ◌∙◌, ap, ap₂}
use mathlib.Core.Bool.{Bool, true, false, not, true≢false}
use mathlib.Core.List.{List, [], ◌∷◌, ◌++◌}
use Prim.Native.Nat.{ℕ, zero, suc}
use native.Mathlib.Omega.{arith}
use borrow.Author.Tests.{le-ltb}
use lib.Dec.{ltb}
use lib.ListN.{length, take, drop}
use Rattle.gkr.specs.Tests.{pass}
use Rattle.transcript.specs.Source.{source}
use Rattle.wire.specs.Words.{all_canonical, first_bad}
use Rattle.refusal.specs.Tests.{Tested, passed, refused, test, first_of}
use Rattle.refusal.specs.TestWays.{both}
use Rattle.refusal.specs.Numbers.{report_of}
use Rattle.refusal.specs.declared.Refusal.{Refusal}
use Rattle.refusal.specs.declared.Refusal.TheVariants.{RaggedRows, TooManyRows, NotPowerOfTwo, ShortChallenges, ShortRoom, BadWord, ZeroDenominator, NonZeroRootSum, SingleRow}
use Rattle.refusal.specs.declared.Words.TheVariants.{Challenges}
use Rattle.sizes.specs.Sizes.{row_count, rounds_of, needed_words}
use Rattle.prover_gate.specs.declared.Rooms.{Rooms}
use Rattle.prover_gate.specs.Refusals.{Call, call, tests, first_refusal}
use Rattle.std.specs.Prelude.{Result, Err}
use Rattle.prover.specs.declared.Done.{Done}
use Rattle.prover.specs.Proved.{modelled, ran, entered, fronts}
use Rattle.prover.specs.Companions.{DrawnMode}
use Rattle.prover.proofs.Theorems.{Ends, each_end, each_front, unlike, done_refused}

module _ (c : Call) (r : Rooms) where
  abbrev rounds : ℕ
  rounds = rounds_of (row_count c.rows)

  abbrev need : ℕ → ℕ
  need n = needed_words c.modes.drawn n

  -- the same call with other challenges lent
  abbrev lending : List ℕ → Call
  lending lent = call c.rows c.modes lent

  -- what the tests see of challenges: whether they are too few, and those that are needed
  abbrev seen : (short : Bool) (needed : List ℕ) → Tested
  seen short needed =
      let ts = tests c r in
      first_of (take 3 ts ++ (test short ShortChallenges ∷ (take 2 (drop 4 ts) ++ (test (not (all_canonical needed)) (BadWord (first_bad needed) Challenges) ∷ drop 7 ts))))

  tested : (lent : List ℕ) → first_refusal (lending lent) r ≡ seen (ltb (length lent) (need rounds)) (take (need rounds) lent)
  unfolding first_refusal
  tested lent = refl

  -- 4 is no other answer
  four : Ends (λ f. f.answer ≡ Err ShortChallenges → ⊥) rounds
  four =
      record {
        finishes = λ ch b P h. done_refused _ _ _ h;
        eight = unlike (Err NonZeroRootSum) (Err ShortChallenges) (λ z. omega arith);
        nine = unlike (Err SingleRow) (Err ShortChallenges) (λ z. omega arith);
      }

  other : (e : Refusal) → ((report_of e).number ≡ 4 → ⊥) → ◌≡◌ {A = Result Done Refusal} (Err e) (Err ShortChallenges) → ⊥
  other e h = unlike (Err e) (Err ShortChallenges) h

  module _ (h : c.modes.drawn ≡ true) where
    -- none are too few, and none are taken
    plenty : (lent : List ℕ) → ltb (length lent) (need rounds) ≡ false
    plenty lent = let e : need rounds ≡ 0 = pass _ _ _ h in le-ltb (length lent) (need rounds) (omega arith)

    taken : (n : ℕ) (lent : List ℕ) → take (need n) lent ≡ []
    taken n lent = ap (λ k. take k lent) (pass _ _ _ h)

    alike : (lent : List ℕ) → first_refusal (lending lent) r ≡ seen false []
    alike lent = tested lent ∙ ap₂ seen (plenty lent) (taken rounds lent)

    runs : (lent : List ℕ) (n : ℕ) → ran c.rows c.modes lent n ≡ ran c.rows c.modes c.challenges n
    runs lent zero = refl
    runs lent (suc m) = ap (λ l. modelled c.rows c.modes.assert_zero c.modes.sized (source c.modes.drawn l) m) (taken (suc m) lent ∙ sym (taken (suc m) c.challenges))

    enters : (lent : List ℕ) (t : Tested) → entered (lending lent) t ≡ entered c t
    enters lent passed = runs lent rounds
    enters lent (refused e) = refl

  pub drawn_mode : DrawnMode c r
  unfolding fronts
  drawn_mode =
      record {
        unread = λ h lent. ap (entered (lending lent)) (alike h lent ∙ sym (alike h c.challenges)) ∙ enters h lent (first_refusal c r);
        enough = λ h. each_front (λ f. f.answer ≡ Err ShortChallenges → ⊥) c r
            (both (λ m. other RaggedRows (λ z. omega arith)) (λ u1.
            both (λ m. other TooManyRows (λ z. omega arith)) (λ u2.
            both (λ m. other NotPowerOfTwo (λ z. omega arith)) (λ u3.
            both (λ m. absurd (true≢false (sym m ∙ plenty h c.challenges))) (λ u4.
            both (λ m. other ShortRoom (λ z. omega arith)) (λ u5.
            both (λ m. other (BadWord _ _) (λ z. omega arith)) (λ u6.
            both (λ m. other (BadWord _ _) (λ z. omega arith)) (λ u7.
            both (λ m. other (ZeroDenominator _) (λ z. omega arith)) (λ u8.
            each_end (λ f. f.answer ≡ Err ShortChallenges → ⊥) c.rows c.modes c.challenges rounds four)))))))));
      }
