-- A prover's caller who asked is never refused as 4 or 5.
-- Assumes nothing.
use mathlib.Core.Path.{◌≡◌, refl, subst}
use mathlib.Core.Bool.{Bool, true, false, ◌||◌}
use mathlib.Core.List.{List}
use Prim.Native.Nat.{ℕ, ◌+◌, ◌≤◌}
use borrow.Author.Tests.{not-false}
use lib.Dec.{eqb}
use Rattle.gkr.specs.Tests.{pass, either}
use Rattle.gkr.specs.Sizes as Sizes
use Rattle.refusal.specs.Limits.{max_rounds}
use Rattle.sizes.specs.Sizes.{row_count, rounds_of, is_size, log_room, work_room}
use Rattle.prover_gate.specs.Refusals.{Call, call, short_room}
use Rattle.refusal.specs.TestWays.{both}
use Rattle.prover.specs.Proved as Prover
use Rattle.prover.specs.Report.{answer_report}
use Rattle.prover.proofs.Theorems.{Ends, each_end, each_front}
use Rattle.sizes.specs.SizeLaws.{few_rounds}
use Rattle.accudrina.specs.Modes.{ASSERT_ZERO, DRAWN, SIZED, proving_bits, has, untaken, proving_of}
use Rattle.accudrina.specs.Calls.{Returned, proving_taken}
use Rattle.exported.specs.Asked.{asked, ForProver, NotShort, ProverNotShort}
use Rattle.exported.proofs.Lending.{never, lent, challenges_lent, other}

-- no buffer is short
none : {p q r s : Bool} → p ≡ false → q ≡ false → r ≡ false → s ≡ false → (p || (q || (r || s))) ≡ false
none p q r s = λ i. p i || (q i || (r i || s i))

pub roomy : (modes : ℕ) (ch : List ℕ) (b : Prover.Buffers) (n : ℕ) → n ≤ max_rounds → ForProver n modes ch b → short_room (has ASSERT_ZERO modes) (has SIZED modes) n (Prover.rooms_of b) ≡ false
unfolding short_room
roomy modes ch b n few asks =
    none (lent n (Sizes.proof_bytes n) _ few asks.proof) (lent n (Sizes.point_words n) _ few asks.point)
    (lent n (log_room (has ASSERT_ZERO modes) (has SIZED modes) n) _ few asks.log) (lent n (work_room n) _ few asks.work)

abbrev Fine : Prover.Outcome → Type 0
Fine f = NotShort (answer_report f.answer).number

ends : (n : ℕ) → Ends Fine n
ends n = record { finishes = λ ch z P. other 0 refl refl; eight = other 8 refl refl; nine = other 9 refl refl }

-- in modes that are taken
run_not_short : (rows : List ℕ) (modes : ℕ) (ch : List ℕ) (b : Prover.Buffers) → ForProver (asked rows) modes ch b
    → NotShort (proving_taken (call rows (proving_of modes) ch) b).told.number
unfolding Prover.proved
run_not_short rows modes ch b h =
    let count = row_count rows in
    let n = rounds_of count in
    let few = few_rounds count in
    let asks : is_size count ≡ true → ForProver n modes ch b = (λ e. subst (λ k. ForProver k modes ch b) (pass (is_size count) n (max_rounds + 1) e) h) in
    each_front Fine (call rows (proving_of modes) ch) (Prover.rooms_of b)
    (both (λ e. other 1 refl refl) (λ u1.
    both (λ e. other 2 refl refl) (λ u2.
    both (λ e. other 3 refl refl) (λ u3.
    let a = asks (not-false (is_size count) u3) in
    both (never (challenges_lent (has DRAWN modes) n _ few a.challenges)) (λ u4.
    both (never (roomy modes ch b n few a)) (λ u5.
    both (λ e. other 6 refl refl) (λ u6.
    both (λ e. other 6 refl refl) (λ u7.
    both (λ e. other 7 refl refl) (λ u8.
    each_end Fine rows (proving_of modes) ch n (ends n))))))))))

pub prover_not_short : ProverNotShort
prover_not_short rows modes ch b h =
    either (λ (r : Returned Prover.Buffers). NotShort r.told.number) (eqb (untaken proving_bits modes) 0) _ _ (λ e. run_not_short rows modes ch b h) (λ e. other 28 refl refl)
