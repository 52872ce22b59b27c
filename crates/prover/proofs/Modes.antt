-- Live mode differs from sandbox only by its row check: 7 with the lowest row over zero, where 1 to 6 do not apply.
-- Assumes nothing.
use mathlib.Core.Path.{◌≡◌, refl, sym, ◌∙◌, ap}
use mathlib.Core.Bool.{Bool, true, false, ◌&&◌, cond}
use mathlib.Core.List.{List, [], ◌∷◌}
use mathlib.Core.Logic.{⊎_elim}
use Prim.Native.Nat.{ℕ, zero, suc, ◌+◌, ◌<◌, ◌≤◌}
use native.Mathlib.Nat.{eq-or-lt_of_le}
use native.Mathlib.Omega.{arith}
use borrow.Author.Tests.{lt-ltb, le-ltb}
use lib.Dec.{ltb}
use lib.ListN.{take}
use Rattle.gkr.specs.Tests.{pass, fail}
use Rattle.prover_tree.specs.Nodes.{node}
use Rattle.refusal.specs.Tests.{Tested, passed, refused, test, first_of}
use Rattle.refusal.specs.TestWays.{both, next, next_passed, first_split}
use Rattle.refusal.specs.Numbers.{report_of}
use Rattle.refusal.specs.declared.Refusal.{Refusal}
use Rattle.refusal.specs.declared.Refusal.TheVariants.{RaggedRows, TooManyRows, NotPowerOfTwo, ShortChallenges, ShortRoom, BadWord, ZeroDenominator, NonZeroRootSum, SingleRow}
use Rattle.sizes.specs.Sizes.{row_count, rounds_of}
use Rattle.prover_gate.specs.declared.Rooms.{Rooms}
use Rattle.prover_gate.specs.Refusals.{Call, degenerate, lowest, tests, first_refusal}
use Rattle.std.specs.Prelude.{Result, Err}
use Rattle.prover.specs.declared.Done.{Done}
use Rattle.prover.specs.Proved.{ran, entered, fronts}
use Rattle.prover.specs.Companions.{in_mode, LiveMode}
use Rattle.prover.proofs.Theorems.{Ends, each_end, each_front, unlike, done_refused}

-- THE ROW CHECK

-- no row over zero
pub lowest_none : (rows : List ℕ) (left i : ℕ) → ((j : ℕ) → j < i + left → degenerate (node rows j) ≡ false) → lowest rows left i ≡ i + left
unfolding lowest
lowest_none rows zero i h = omega arith
lowest_none rows (suc left) i h = fail _ _ _ (h i (omega arith)) ∙ lowest_none rows left (suc i) (λ j l. h j (omega arith)) ∙ omega arith

-- row k is, and no lower one
pub lowest_is : (rows : List ℕ) (left i k : ℕ) → i ≤ k → k < i + left → degenerate (node rows k) ≡ true → ((j : ℕ) → j < k → degenerate (node rows j) ≡ false) → lowest rows left i ≡ k
unfolding lowest
lowest_is rows zero i k a b d h = absurd (omega arith)
lowest_is rows (suc left) i k a b d h =
    ⊎_elim
    (λ (e : i ≡ k). pass _ _ _ (ap (λ j. degenerate (node rows j)) e ∙ d) ∙ e)
    (λ (l : i < k). fail _ _ _ (h i l) ∙ lowest_is rows left (suc i) k l (omega arith) d h)
    (eq-or-lt_of_le a)

-- THE TWO MODES

module _ (c : Call) (r : Rooms) where
  abbrev count : ℕ
  count = row_count c.rows

  -- the row check, for a lowest row
  abbrev checked : ℕ → Tested
  checked row = cond (ltb row count) (refused (ZeroDenominator row)) passed

  abbrev low : ℕ
  low = lowest c.rows count 0

  -- 1 to 6, which are those of both modes
  abbrev front : Tested
  front = first_of (take 7 (tests c r))

  of_mode : (live : Bool) → first_refusal (in_mode live c) r ≡ next front (first_of (test (live && ltb low count) (ZeroDenominator low) ∷ []))
  unfolding first_refusal
  of_mode live = first_split 7 (tests (in_mode live c) r)

  -- live mode's refusal is the sandbox's, and then the row check's
  live_next : first_refusal (in_mode true c) r ≡ next (first_refusal (in_mode false c) r) (checked low)
  unfolding first_of
  live_next = of_mode true ∙ ap (λ t. next t (checked low)) (sym (of_mode false ∙ next_passed front))

  -- a run does not look at live mode
  same_run : (n : ℕ) → ran c.rows (in_mode true c).modes c.challenges n ≡ ran c.rows (in_mode false c).modes c.challenges n
  same_run zero = refl
  same_run (suc m) = refl

  same : (t : Tested) → entered (in_mode true c) t ≡ entered (in_mode false c) t
  same passed = same_run (rounds_of count)
  same (refused e) = refl

  -- 7 is no other answer
  seven : (i : ℕ) → Ends (λ f. f.answer ≡ Err (ZeroDenominator i) → ⊥) (rounds_of count)
  seven i =
      record {
        finishes = λ ch b P h. done_refused _ _ _ h;
        eight = unlike (Err NonZeroRootSum) (Err (ZeroDenominator i)) (λ z. omega arith);
        nine = unlike (Err SingleRow) (Err (ZeroDenominator i)) (λ z. omega arith);
      }

  other : (e : Refusal) (i : ℕ) → ((report_of e).number ≡ 7 → ⊥) → ◌≡◌ {A = Result Done Refusal} (Err e) (Err (ZeroDenominator i)) → ⊥
  other e i h = unlike (Err e) (Err (ZeroDenominator i)) h

  never : false ≡ true → ⊥
  never h = let z : ◌≡◌ {A = ℕ} 0 1 = cc in omega arith

  pub live_mode : LiveMode c r
  unfolding fronts
  live_mode =
      record {
        equal = λ s.
            let e = lowest_none c.rows count 0 (λ j l. s j (omega arith)) in
            let past : count ≤ low = omega (arith, e) in
            ap (entered (in_mode true c)) (live_next ∙ ap (next (first_refusal (in_mode false c) r)) (fail _ _ _ (le-ltb _ _ past)) ∙ next_passed (first_refusal (in_mode false c) r))
            ∙ same (first_refusal (in_mode false c) r);
        earlier = λ e h. ap (entered (in_mode true c)) (live_next ∙ ap (λ t. next t (checked low)) h);
        lowest = λ i l h.
            let e : low ≡ i = lowest_is c.rows count 0 i (omega arith) (let t = l.there in omega arith) l.over_zero l.below in
            ap (entered (in_mode true c)) (live_next ∙ ap (λ t. next t (checked low)) h ∙ ap checked e ∙ pass _ _ _ (lt-ltb _ _ l.there));
        sandbox = λ i. each_front (λ f. f.answer ≡ Err (ZeroDenominator i) → ⊥) (in_mode false c) r
            (both (λ m. other RaggedRows i (λ z. omega arith)) (λ u1.
            both (λ m. other TooManyRows i (λ z. omega arith)) (λ u2.
            both (λ m. other NotPowerOfTwo i (λ z. omega arith)) (λ u3.
            both (λ m. other ShortChallenges i (λ z. omega arith)) (λ u4.
            both (λ m. other ShortRoom i (λ z. omega arith)) (λ u5.
            both (λ m. other (BadWord _ _) i (λ z. omega arith)) (λ u6.
            both (λ m. other (BadWord _ _) i (λ z. omega arith)) (λ u7.
            both (λ m. absurd (never m)) (λ u8.
            each_end (λ f. f.answer ≡ Err (ZeroDenominator i) → ⊥) c.rows (in_mode false c).modes c.challenges (rounds_of count) (seven i))))))))));
      }
