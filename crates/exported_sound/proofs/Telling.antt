-- The answers behind the words: a call that returns 0 took all its modes and was not refused, and its words are those of both elements.
-- Assumes nothing.
use mathlib.Core.Path.{◌≡◌, refl, sym, ◌∙◌, ap}
use mathlib.Core.Bool.{Bool, true, false, cond}
use mathlib.Core.List.{List}
use Prim.Native.Nat.{ℕ, ◌≤◌}
use native.Mathlib.Nat.{mod-eq_of_lt}
use native.Mathlib.Omega.{arith}
use lib.Dec.{eqb}
use lib.ListN.{get_or}
use Rattle.field.specs.Ext as E
use Rattle.field.specs.ExtRing.{ExtRing}
use Rattle.field.specs.Element.{enc}
use Rattle.field.specs.Cells.{cells}
use Rattle.field.specs.declared.Ext.{Ext}
use Rattle.gkr.specs.Run.{Frac}
use Rattle.gkr.specs.Tree as Tree
use Rattle.transcript.specs.declared.Used.{Used}
use Rattle.transcript.specs.Used.{unused}
use Rattle.refusal.specs.declared.Refusal.{Refusal}
use Rattle.refusal.specs.declared.Refusal.TheVariants.{RaggedRows, TooManyRows, NotPowerOfTwo, ShortChallenges, ShortRoom, BadWord, ZeroDenominator, NonZeroRootSum, SingleRow, ZeroRounds, TooManyRounds, BadVersion, BadLength, IncorrectLayerCount, IncorrectSumcheckPolyCount, ZeroCheckFailed, RootConsistencyCheckFailed, IncorrectSubroundCount, LayerConsistencyCheckFailed, InvalidZeroRoundValue, LogMismatch, LogShort, LogLong, ZeroRoot}
use Rattle.refusal.specs.Numbers.{elements, report_of}
use Rattle.refusal.specs.Tests.{Tested, passed, refused, first_of}
use Rattle.sizes.specs.Sizes.{row_count, rounds_of}
use Rattle.sizes.specs.SizeLaws.{few_rounds}
use Rattle.prover_tree.specs.Nodes.{node}
use Rattle.std.specs.Prelude.{Result, Ok, Err}
use Rattle.verifier_round.specs.declared.Claims.{Claims}
use Rattle.verifier_round.specs.Report.{verdict_report}
use Rattle.evaluation.specs.declared.Values.{Values}
use Rattle.evaluation.specs.Report.{evaluation_report}
use Rattle.evaluation.specs.Evaluated.{told, tests, valued, evaluated}
use Rattle.accudrina.specs.Answer.{tells, answer_words}
use Rattle.accudrina.specs.Modes.{unknown_mode}
use Rattle.accudrina.specs.Calls.{Returned, taking, evaluating}
use Rattle.verdict_sound.proofs.Sheets.{done as found, not_done, rounds_told}
use Rattle.exported.specs.Exported.{done}

-- NO REFUSAL HAS THE NUMBER 0

not_zero : (e : Refusal) → ¬ ((report_of e).number ≡ 0)
not_zero RaggedRows h = omega (arith, h)
not_zero TooManyRows h = omega (arith, h)
not_zero NotPowerOfTwo h = omega (arith, h)
not_zero ShortChallenges h = omega (arith, h)
not_zero ShortRoom h = omega (arith, h)
not_zero (BadWord place list) h = omega (arith, h)
not_zero (ZeroDenominator row) h = omega (arith, h)
not_zero NonZeroRootSum h = omega (arith, h)
not_zero SingleRow h = omega (arith, h)
not_zero ZeroRounds h = omega (arith, h)
not_zero TooManyRounds h = omega (arith, h)
not_zero BadVersion h = omega (arith, h)
not_zero BadLength h = omega (arith, h)
not_zero (IncorrectLayerCount expected actual) h = omega (arith, h)
not_zero (IncorrectSumcheckPolyCount expected actual) h = omega (arith, h)
not_zero (ZeroCheckFailed actual) h = omega (arith, h)
not_zero (RootConsistencyCheckFailed expected actual) h = omega (arith, h)
not_zero (IncorrectSubroundCount round expected actual) h = omega (arith, h)
not_zero (LayerConsistencyCheckFailed round expected actual) h = omega (arith, h)
not_zero (InvalidZeroRoundValue actual) h = omega (arith, h)
not_zero (LogMismatch place) h = omega (arith, h)
not_zero (LogShort place) h = omega (arith, h)
not_zero (LogLong place) h = omega (arith, h)
not_zero ZeroRoot h = omega (arith, h)

-- nor has 28
pub taken : {B : Type 0} (bits : ℕ) (lent : B) (run : Returned B) (k : ℕ) (f : Frac E.Ext) (u : Used) → (taking bits lent run).told ≡ done k f u → taking bits lent run ≡ run
taken {B} bits lent run k f u h = go (eqb bits 0) refl
  where
    other : Returned B
    other = record { told = tells (unknown_mode bits) unused; buffers = lent }

    go : (t : Bool) → eqb bits 0 ≡ t → taking bits lent run ≡ run
    go true e = ap (λ t. cond t run other) e
    go false e = absurd (let z : ◌≡◌ {A = ℕ} 28 0 = sym (ap (λ t. (cond t run other).told.number) e) ∙ ap (λ x. x.number) h in omega (arith, z))

-- THE WORDS OF TWO ELEMENTS

module _ (n k : ℕ) (p q : Ext) (f : Frac E.Ext) (u u' : Used) (h : tells (elements 0 n p q) u ≡ done k f u') where
  word : (i : ℕ) → get_or (tells (elements 0 n p q) u).words i 0 ≡ get_or (done k f u').words i 0
  word i = ap (λ t. get_or t.words i 0) h

  pub first_told : p ≡ enc f.p
  unfolding answer_words
  first_told = λ i. record { c0 = word 4 i; c1 = word 5 i; c2 = word 6 i; c3 = word 7 i }

  pub second_told : q ≡ enc f.q
  unfolding answer_words
  second_told = λ i. record { c0 = word 8 i; c1 = word 9 i; c2 = word 10 i; c3 = word 11 i }

  pub field_told : n ≤ 10 → n ≡ k
  unfolding answer_words
  field_told l = sym (mod-eq_of_lt (omega (arith, l))) ∙ word 1

-- WHAT WAS ANSWERED

pub accepted_told : (x : Result Claims Refusal) (f : Frac E.Ext) (u u' : Used) → tells (verdict_report x) u ≡ done 0 f u' → x ≡ Ok (record { numer = enc f.p; denom = enc f.q })
accepted_told (Ok c) f u u' h = λ i. Ok (record { numer = first_told 0 0 c.numer c.denom f u u' h i; denom = second_told 0 0 c.numer c.denom f u u' h i })
accepted_told (Err e) f u u' h = absurd (not_zero e (ap (λ t. t.number) h))

done_told : (x : Result Values Refusal) (k : ℕ) (f : Frac E.Ext) → ((v : Values) → x ≡ Ok v → v.rounds ≤ 10) → tells (evaluation_report x) unused ≡ done k f unused → x ≡ found k (enc f.p) (enc f.q)
done_told (Ok v) k f few h =
    λ i. found (field_told v.rounds k v.numer v.denom f unused unused h (few v refl) i) (first_told v.rounds k v.numer v.denom f unused unused h i) (second_told v.rounds k v.numer v.denom f unused unused h i)
done_told (Err e) k f few h = absurd (not_zero e (ap (λ t. t.number) h))

-- an evaluation has at most ten rounds
few_told : (rows point : List ℕ) (v : Values) → evaluated rows point ≡ Ok v → v.rounds ≤ 10
unfolding evaluated
few_told rows point v h = by_tests (first_of (tests rows point)) h
  where
    k : ℕ
    k = rounds_of (row_count rows)

    by_rows : (b : Bool) → cond b (told 0 (record { p = E.nil; q = E.one })) (told k (Tree.value ExtRing (node rows) (cells point 0 k))) ≡ Ok v → v.rounds ≤ 10
    by_rows true e = omega (arith, rounds_told 0 v.rounds (record { p = E.nil; q = E.one }) v.numer v.denom e)
    by_rows false e = omega (arith, rounds_told k v.rounds (Tree.value ExtRing (node rows) (cells point 0 k)) v.numer v.denom e, few_rounds (row_count rows))

    by_tests : (w : Tested) → valued rows point w ≡ Ok v → v.rounds ≤ 10
    by_tests (refused r) e = absurd (not_done v.rounds v.numer v.denom r e)
    by_tests passed e = by_rows (eqb (row_count rows) 0) e

pub evaluated_told : (rows point : List ℕ) (k : ℕ) (f : Frac E.Ext) → evaluating rows point ≡ done k f unused → evaluated rows point ≡ found k (enc f.p) (enc f.q)
evaluated_told rows point k f h = done_told (evaluated rows point) k f (few_told rows point) h
