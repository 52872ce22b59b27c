-- Isolation and what a refusal leaves, from what is laid at the fronts.
-- Assumes nothing.
use Rattle.std.specs.Prelude.{Result, Err}
use mathlib.Core.Path.{◌≡◌, refl, sym, ap, ap₂}
use Prim.Native.Nat.{ℕ, ◌≤◌}
use native.Mathlib.Omega.{arith}
use lib.Dec.{eqb}
use lib.ListN.{length}
use Rattle.field.specs.Ext as E
use Rattle.gkr.specs.Tests.{either}
use Rattle.gkr.specs.Transcripts.{Words, Source, empty}
use Rattle.gkr.specs.Gkr.{accepted, zero_rounds, layer_count, poly_count, zero_check, root_check, subround_count, layer_check}
use Rattle.refusal.specs.declared.Refusal.{Refusal}
use Rattle.refusal.specs.Numbers.{report_of}
use Rattle.refusal.specs.Fronts.{over}
use Rattle.refusal.specs.Tests.{Tested, passed, refused, first_of}
use Rattle.verifier_round.specs.declared.Claims.{Claims}
use Rattle.verifier_round.specs.Verdicts.{Model, left_by}
use Rattle.verifier.specs.Verified.{Asked, Lent, lent, source_of, tests, ended, fronts, laid, verified}
use Rattle.verifier.specs.Gates.{verdict}
use Rattle.verifier.specs.Companions.{Isolation, Untouched}

pub isolation : Isolation
unfolding verified
isolation a b b' p l =
    record {
      front = fronts a (first_of (tests a (length b.point) (length b.log)));
      here = refl;
      there = ap₂ (λ m k. laid (fronts a (first_of (tests a m k))) b') (sym p) (sym l);
    }

-- the number of a refusal that is told
number : (e e' : Refusal) → ◌≡◌ {A = Result Claims Refusal} (Err e) (Err e') → (report_of e').number ≡ (report_of e).number
number e e' h = let q : e ≡ e' = cc in ap (λ x. (report_of x).number) (sym q)

module _ (e : Refusal) where
  -- none of 16 to 19
  abbrev Other : Type 0
  Other = ¬ ((16 ≤ (report_of e).number) × ((report_of e).number ≤ 19))

  run_number : (k : ℕ) → (report_of e).number ≡ k → 16 ≤ k → k ≤ 19 → Other → ⊥
  run_number k h l m o = o (omega arith, omega arith)

  -- a run that is refused leaves an empty log, unless it is refused by 16 to 19
  pub run_log : (ch : Source E.Ext) (v : Model ch) → (ended ch v).answer ≡ Err e → Other → left_by ch v ≡ empty
  run_log ch (accepted x z t) h l = absurd (let z : ◌≡◌ {A = ℕ} 0 1 = cc in omega arith)
  run_log ch zero_rounds h l = refl
  run_log ch (layer_count expected actual) h l = refl
  run_log ch (poly_count expected actual) h l = refl
  run_log ch (zero_check actual t) h l = absurd (run_number _ (number _ e h) (omega arith) (omega arith) l)
  run_log ch (root_check expected actual t) h l = absurd (run_number _ (number _ e h) (omega arith) (omega arith) l)
  run_log ch (subround_count round expected actual t) h l = absurd (run_number _ (number _ e h) (omega arith) (omega arith) l)
  run_log ch (layer_check round expected actual t) h l = absurd (run_number _ (number _ e h) (omega arith) (omega arith) l)

module _ (b : Lent) (e : Refusal) where
  -- and the point as it was
  run_point : (ch : Source E.Ext) (v : Model ch) → (ended ch v).answer ≡ Err e → (laid (ended ch v) b).buffers.point ≡ b.point
  run_point ch (accepted x z t) h = absurd (let z : ◌≡◌ {A = ℕ} 0 1 = cc in omega arith)
  run_point ch zero_rounds h = refl
  run_point ch (layer_count expected actual) h = refl
  run_point ch (poly_count expected actual) h = refl
  run_point ch (zero_check actual t) h = refl
  run_point ch (root_check expected actual t) h = refl
  run_point ch (subround_count round expected actual t) h = refl
  run_point ch (layer_check round expected actual t) h = refl

  run_both : (ch : Source E.Ext) (v : Model ch) → (ended ch v).answer ≡ Err e → Other e → (laid (ended ch v) b).buffers ≡ b
  run_both ch v h l = ap₂ lent (run_point ch v h) (ap (λ (t : Words). over t.log b.log) (run_log e ch v h l))

  point_left : (a : Asked) (w : Tested) → (fronts a w).answer ≡ Err e → (laid (fronts a w) b).buffers.point ≡ b.point
  point_left a (refused r) h = refl
  point_left a passed h =
      either (λ f. f.answer ≡ Err e → (laid f b).buffers.point ≡ b.point) (eqb a.rounds 0) _ _ (λ _ _. refl)
      (λ _. run_point (source_of a) (verdict a.proof a.rounds (source_of a))) h

  both_left : (a : Asked) (w : Tested) → (fronts a w).answer ≡ Err e → Other e → (laid (fronts a w) b).buffers ≡ b
  both_left a (refused r) h l = refl
  both_left a passed h l =
      either (λ f. f.answer ≡ Err e → (laid f b).buffers ≡ b) (eqb a.rounds 0) _ _ (λ _ _. refl)
      (λ _ k. run_both (source_of a) (verdict a.proof a.rounds (source_of a)) k l) h

pub untouched : (a : Asked) (b : Lent) → Untouched a b
unfolding verified
untouched a b =
    let w = first_of (tests a (length b.point) (length b.log)) in
    record { point = λ e h. point_left b e a w h; both = λ e h l. both_left b e a w h l }
