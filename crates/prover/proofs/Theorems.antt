-- What follows from the definition of a call: no second outcome fits, what buffers held before does not matter, and the workspace is wiped.
-- Assumes nothing.
use mathlib.Core.Path.{◌≡◌, refl, sym, ◌∙◌, ap}
use mathlib.Core.Bool.{Bool, not, ◌&&◌}
use mathlib.Core.List.{List, []}
use Prim.Native.Nat.{ℕ, zero, suc}
use native.Mathlib.Omega.{arith}
use lib.Dec.{eqb}
use lib.ListN.{replicate, take}
use Rattle.field.specs.Ext as E
use Rattle.field.specs.Extension.{Extension}
use Rattle.gkr.specs.Tests.{either}
use Rattle.gkr.specs.Transcripts.{empty, Source}
use Rattle.gkr.specs.Gkr as Gkr
use Rattle.gkr.specs.Gkr.{done, non_zero_root_sum}
use Rattle.transcript.specs.Source.{supplied, source}
use Rattle.transcript.specs.Log.{Drawing, Observing}
use Rattle.transcript.specs.Bound.{bound}
use Rattle.transcript.specs.Used.{unused}
use Rattle.step.specs.declared.Frac.{Frac}
use Rattle.prover_tree.specs.Nodes.{node}
use Rattle.refusal.specs.TestWays.{Ways, both, each_way}
use Rattle.refusal.specs.declared.Proving.{Proving}
use Rattle.refusal.specs.declared.Refusal.{Refusal}
use Rattle.refusal.specs.declared.Refusal.TheVariants.{RaggedRows, TooManyRows, NotPowerOfTwo, ShortChallenges, ShortRoom, BadWord, ZeroDenominator, NonZeroRootSum, SingleRow}
use Rattle.sizes.specs.Sizes.{row_count, rounds_of, needed_words, work_room}
use Rattle.prover_gate.specs.declared.Rooms.{Rooms}
use Rattle.prover_gate.specs.Refusals.{Call, tests, first_refusal}
use Rattle.prover.specs.declared.Done.{Done}
use Rattle.std.specs.Prelude.{Result, Err}
use Rattle.prover.specs.Proved.{Buffers, Outcome, rooms_of, outcome, laid, untouched, finished, after, ran, entered, fronts, proved, summed}
use Rattle.prover.specs.Report.{answer_report}
use Rattle.prover.specs.Companions.{Isolation, Left, Wiping}

-- NO SECOND OUTCOME FITS

pub only_one : (c : Call) (b : Buffers) (o o' : Outcome) → o ≡ proved c b → o' ≡ proved c b → o ≡ o'
only_one c b o o' h h' = h ∙ sym h'

-- OLD CONTENTS DO NOT MATTER

laid_over : (c : Call) (b : Buffers) → proved c b ≡ laid (fronts c (rooms_of b)) b
unfolding proved
laid_over c b = refl

pub isolation : Isolation
isolation c b b' e = (laid_over c b, laid_over c b' ∙ ap (λ r. laid (fronts c r) b') (sym e))

-- BY CASES

-- Q of each end of a run over n rounds
pub record Ends (Q : Outcome → Type 0) (n : ℕ) : Type 0 where
  pub finishes : (ch : Source E.Ext) (sized : Bool) (P : Gkr.Proved Extension (Drawing ch)) → Q (finished ch sized n P)
  pub eight : Q (outcome (Err NonZeroRootSum) unused [] [] [] (replicate (work_room n) 0))
  pub nine : Q (untouched SingleRow)

pub each_end : (Q : Outcome → Type 0) (rows : List ℕ) (modes : Proving) (ch : List ℕ) (n : ℕ) → Ends Q n → Q (ran rows modes ch n)
each_end Q rows modes ch zero w =
    either Q (eqb (row_count rows) 0) _ _ (λ e. w.finishes (supplied []) modes.sized (Gkr.no_rows Extension Observing empty))
    (λ e. either (λ r. Q (untouched r)) (modes.assert_zero && not (E.same (node rows 0).p E.nil)) NonZeroRootSum SingleRow (λ h. w.eight) (λ h. w.nine))
each_end Q rows modes ch (suc m) w =
    let needed = source modes.drawn (take (needed_words modes.drawn (suc m)) ch) in
    model needed (Gkr.fractional_sumcheck Extension (Drawing needed) modes.assert_zero m (node rows) (bound modes.sized (suc m) empty))
  where
    model : (ch : Source E.Ext) (a : Gkr.Answer Extension (Drawing ch)) → Q (after ch modes.sized (suc m) a)
    model ch (done P) = w.finishes ch modes.sized P
    model ch non_zero_root_sum = w.eight

-- Q of each refusal of the gate, and of a call that passes it
pub each_front : (Q : Outcome → Type 0) (c : Call) (r : Rooms) → Ways (λ t. Q (entered c t)) (tests c r) → Q (fronts c r)
unfolding fronts first_refusal
each_front Q c r w = each_way (λ t. Q (entered c t)) (tests c r) w

-- answers of two numbers differ
pub unlike : (a a' : Result Done Refusal) → ((answer_report a).number ≡ (answer_report a').number → ⊥) → a ≡ a' → ⊥
unlike a a' h e = h (ap (λ x. (answer_report x).number) e)

-- WHAT IS LEFT

-- what is done over n rounds with a sum is so over no others, and with no other
module _ {n k : ℕ} {s t : Frac} (h : summed n s ≡ summed k t) where
  same_done : ◌≡◌ {A = Done} (record { rounds = n; sum = s }) (record { rounds = k; sum = t })
  same_done = cc

  pub same_rounds : n ≡ k
  same_rounds = ap (λ (d : Done). d.rounds) same_done

  pub same_sum : s ≡ t
  same_sum = ap (λ (d : Done). d.sum) same_done

pub done_refused : (n : ℕ) (s : Frac) (e : Refusal) → summed n s ≡ Err e → ⊥
done_refused n s e h = let z : ◌≡◌ {A = ℕ} 0 1 = cc in omega arith

module _ (n : ℕ) where
  quiet : (e : Refusal) → ((answer_report (Err e)).number ≡ 8 → ⊥) → Left n (untouched e)
  quiet e d =
      record {
        done = λ k s h. absurd (done_refused k s e (sym h));
        eight = λ h. absurd (unlike (Err e) (Err NonZeroRootSum) d h);
        other = λ x q h. refl;
      }

  ends_left : Ends (Left n) n
  ends_left =
      record {
        finishes = λ ch b P. record {
          done = λ k s h. ap (λ (j : ℕ). replicate (work_room j) 0) (same_rounds h);
          eight = λ h. absurd (done_refused n _ NonZeroRootSum h);
          other = λ x q h. absurd (done_refused n _ x h);
        };
        eight = record {
          done = λ k s h. absurd (done_refused k s NonZeroRootSum (sym h));
          eight = λ h. refl;
          other = λ x q h. absurd (q (let e : x ≡ NonZeroRootSum = cc in e));
        };
        nine = quiet SingleRow (λ z. omega arith);
      }

pub wiping : Wiping
wiping c r =
    let n = rounds_of (row_count c.rows) in
    each_front (Left n) c r
    (both (λ m. quiet n RaggedRows (λ z. omega arith)) (λ u1.
    both (λ m. quiet n TooManyRows (λ z. omega arith)) (λ u2.
    both (λ m. quiet n NotPowerOfTwo (λ z. omega arith)) (λ u3.
    both (λ m. quiet n ShortChallenges (λ z. omega arith)) (λ u4.
    both (λ m. quiet n ShortRoom (λ z. omega arith)) (λ u5.
    both (λ m. quiet n (BadWord _ _) (λ z. omega arith)) (λ u6.
    both (λ m. quiet n (BadWord _ _) (λ z. omega arith)) (λ u7.
    both (λ m. quiet n (ZeroDenominator _) (λ z. omega arith)) (λ u8.
    each_end (Left n) c.rows c.modes c.challenges n (ends_left n))))))))))
