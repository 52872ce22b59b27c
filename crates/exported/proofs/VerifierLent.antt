-- A verifier's caller who asked is never refused as 4 or 5.
-- Assumes nothing.
use mathlib.Core.Path.{refl, ap₂}
use mathlib.Core.Bool.{true, not, ◌&&◌, ◌||◌}
use mathlib.Core.List.{List}
use Prim.Native.Nat.{ℕ, ◌*◌}
use native.Mathlib.Omega.{arith}
use borrow.Author.Tests.{le-ltb, ltb-false}
use lib.Dec.{eqb, ltb}
use lib.ListN.{length}
use Rattle.field.specs.Ext as E
use Rattle.gkr.specs.Tests.{either}
use Rattle.gkr.specs.Transcripts.{Source}
use Rattle.gkr.specs.Gkr.{accepted, zero_rounds, layer_count, poly_count, zero_check, root_check, subround_count, layer_check}
use Rattle.refusal.specs.Limits.{max_rounds}
use Rattle.refusal.specs.Tests.{Tested, first_of}
use Rattle.refusal.specs.TestWays.{each_way}
use Rattle.wire.specs.Words.{all_canonical}
use Rattle.stored.specs.Layout.{proof_words}
use Rattle.stored.specs.Parse as Parse
use Rattle.stored.specs.Parse.{proof_of}
use Rattle.sizes.specs.Sizes.{needed_words, log_room}
use Rattle.verifier_round.specs.Verdicts.{Model, answer_of}
use Rattle.verifier.specs.Verified as Verifier
use Rattle.verifier.specs.Verified.{Asked, Lent, Outcome, asked, rootless, needed, source_of, empty_tests, emptied, fronts}
use Rattle.verifier.specs.Gates.{verdict}
use Rattle.verifier_round.specs.Report.{verdict_report}
use Rattle.accudrina.specs.Modes.{DRAWN, verifying_bits, has, untaken, verifying_of}
use Rattle.accudrina.specs.Calls.{Returned, verifying_taken}
use Rattle.exported.specs.Asked.{ForVerifier, NotShort, VerifierNotShort}
use Rattle.exported.proofs.Lending.{never, lent, challenges_lent, log_lent, other}

-- what no rounds answer
none : (proof : List ℕ) → NotShort (verdict_report (emptied (first_of (empty_tests proof)))).number
none proof = each_way (λ t. NotShort (verdict_report (emptied t)).number) (empty_tests proof) (λ _. other 14 refl refl, λ _. (λ _. other 15 refl refl, λ _. (λ _. other 22 refl refl, λ _. other 0 refl refl)))

-- what the run answers
model : (ch : Source E.Ext) (w : Model ch) → NotShort (verdict_report (answer_of ch w)).number
model ch (accepted v z t) = other 0 refl refl
model ch zero_rounds = other 10 refl refl
model ch (layer_count expected actual) = other 14 refl refl
model ch (poly_count expected actual) = other 15 refl refl
model ch (zero_check actual t) = other 16 refl refl
model ch (root_check expected actual t) = other 17 refl refl
model ch (subround_count round expected actual t) = other 18 refl refl
model ch (layer_check round expected actual t) = other 19 refl refl

abbrev Passed : Asked → Tested → Type 0
Passed a w = NotShort (verdict_report (fronts a w).answer).number

run_not_short : (proof : List ℕ) (n modes : ℕ) (ch : List ℕ) (v : Lent) → ForVerifier (Parse.sized proof) n modes ch v → NotShort (verifying_taken (asked proof n (verifying_of modes) ch) v).told.number
unfolding Verifier.verified first_of
run_not_short proof n modes ch v h =
    let a = asked proof n (verifying_of modes) ch in
    let P = Passed a in
    either P (eqb n 0 && not a.modes.empty) _ _ (λ e. other 10 refl refl) (λ some.
    either P (ltb max_rounds n) _ _ (λ e. other 11 refl refl) (λ e.
    let few = ltb-false max_rounds n e in
    let logs = le-ltb _ _ (log_lent (Parse.sized proof) n (length v.log) few (omega (arith, h.log))) in
    either P (ltb (length a.challenges) (needed_words (has DRAWN modes) n)) _ _ (never (challenges_lent (has DRAWN modes) n _ few h.challenges)) (λ e3.
    either P (not (Parse.known a.proof)) _ _ (λ e. other 12 refl refl) (λ e4.
    either P (ltb (length v.point) (4 * n) || ltb (length v.log) (log_room true (Parse.sized a.proof) n)) _ _ (never (ap₂ ◌||◌ (lent n (4 * n) _ few h.point) logs)) (λ e5.
    either P (not (Parse.fits a.proof)) _ _ (λ e. other 13 refl refl) (λ e6.
    either P (not (all_canonical (proof_words (proof_of a.proof)))) _ _ (λ e. other 6 refl refl) (λ e7.
    either P (not (all_canonical (needed a))) _ _ (λ e. other 6 refl refl) (λ e8.
    either P (a.modes.live && rootless a.proof n) _ _ (λ e. other 27 refl refl) (λ e9.
    either (λ (o : Outcome). NotShort (verdict_report o.answer).number) (eqb n 0) _ _ (λ e. none a.proof) (λ e. model (source_of a) (verdict a.proof n (source_of a))))))))))))

pub verifier_not_short : VerifierNotShort
verifier_not_short proof n modes ch v h =
    either (λ (r : Returned Lent). NotShort r.told.number) (eqb (untaken verifying_bits modes) 0) _ _ (λ e. run_not_short proof n modes ch v h) (λ e. other 28 refl refl)
