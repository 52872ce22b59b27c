-- Where challenges are drawn, those lent are not read, and 4 is never given.
-- Assumes nothing.
use Rattle.std.specs.Prelude.{Err}
use mathlib.Core.Path.{◌≡◌, refl, sym, ◌∙◌, ap}
use mathlib.Core.Bool.{Bool, true, false, false≢true}
use mathlib.Core.List.{List}
use Prim.Native.Nat.{ℕ}
use native.Mathlib.Omega.{arith}
use borrow.Author.Tests.{le-ltb}
use lib.Dec.{ltb}
use lib.ListN.{length}
use Rattle.refusal.specs.declared.Refusal.TheVariants.{ShortChallenges}
use Rattle.refusal.specs.Tests.{Tested, passed, refused, first_of}
use Rattle.refusal.specs.TestWays.{each_way}
use Rattle.verifier.specs.Verified.{Asked, Lent, asked, tests, fronts, laid, verified}
use Rattle.verifier.specs.Companions.{DrawnVerifying}
use Rattle.verifier.proofs.Answers.{unlike, not_by_run}

-- any list is long enough for no words
none_short : (ch : List ℕ) → ltb (length ch) 0 ≡ false
none_short ch = le-ltb (length ch) 0 (omega arith)

module _ (a : Asked) (b : Lent) where
  -- the same call, supplied or drawn, with other challenges lent
  abbrev with_lent : (drawn : Bool) (ch : List ℕ) → Asked
  with_lent drawn ch = asked a.proof a.rounds (record { live = a.modes.live; drawn = drawn; empty = a.modes.empty }) ch

  abbrev first : Asked → Tested
  first c = first_of (tests c (length b.point) (length b.log))

  module _ (ch lent : List ℕ) where
    same_first : first (with_lent true ch) ≡ first (with_lent true lent)
    unfolding first_of
    same_first = rw (none_short ch, none_short lent)

    same_fronts : (t : Tested) → fronts (with_lent true ch) t ≡ fronts (with_lent true lent) t
    same_fronts passed = refl
    same_fronts (refused e) = refl

    same : verified (with_lent true ch) b ≡ verified (with_lent true lent) b
    unfolding verified
    same = ap (λ t. laid (fronts (with_lent true ch) t) b) same_first ∙ ap (λ f. laid f b) (same_fronts (first (with_lent true lent)))

  -- 4 is given by no test but its own, nor by a run
  abbrev Fine : Tested → Type 0
  Fine t = ¬ ((fronts (with_lent true a.challenges) t).answer ≡ Err ShortChallenges)

  never_short : Fine (first (with_lent true a.challenges))
  never_short =
      let c = with_lent true a.challenges in
      each_way Fine (tests c (length b.point) (length b.log)) (
        λ m. unlike _ ShortChallenges refl,
        λ u1. (
          λ m. unlike _ ShortChallenges refl,
          λ u2. (
            λ m. absurd (false≢true (sym (none_short a.challenges) ∙ m)),
            λ u3. (
              λ m. unlike _ ShortChallenges refl,
              λ u4. (
                λ m. unlike _ ShortChallenges refl,
                λ u5. (
                  λ m. unlike _ ShortChallenges refl,
                  λ u6. (
                    λ m. unlike _ ShortChallenges refl,
                    λ u7. (
                      λ m. unlike _ ShortChallenges refl,
                      λ u8.
                          (λ m. unlike _ ShortChallenges refl, λ u9. not_by_run c ShortChallenges refl),
                    ),
                  ),
                ),
              ),
            ),
          ),
        ),
      )

  never_given : ¬ ((verified (with_lent true a.challenges) b).answer ≡ Err ShortChallenges)
  unfolding verified
  never_given = never_short

  -- drawn, the call is that
  is_drawn : a.modes.drawn ≡ true → (ch : List ℕ) → verified (asked a.proof a.rounds a.modes ch) b ≡ verified (with_lent true ch) b
  is_drawn h ch = ap (λ d. verified (with_lent d ch) b) h

  pub drawn_verifying : DrawnVerifying a b
  drawn_verifying =
      record {
        unread = λ h lent. is_drawn h lent ∙ same lent a.challenges ∙ sym (is_drawn h a.challenges);
        enough = λ h e. never_given (sym (ap (λ o. o.answer) (is_drawn h a.challenges)) ∙ e);
      }
