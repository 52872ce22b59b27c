-- What was used up: the words written, four sampled ones for each challenge; those of a run where it accepts, and nothing where there was none.
-- Assumes nothing.
use Rattle.std.specs.Prelude.{Result, Ok, Err}
use mathlib.Core.Path.{◌≡◌, refl, sym, ◌∙◌, ap, ap₂}
use mathlib.Core.Bool.{Bool, true, cond}
use mathlib.Core.List.{List, []}
use Prim.Native.Nat.{ℕ, suc, ◌+◌, ◌*◌, ◌-◌, ◌≤◌}
use native.Mathlib.Nat.{zero-add}
use native.Mathlib.Omega.{arith}
use borrow.Author.Tests.{eqb-true, eqb-false}
use lib.Dec.{eqb}
use lib.ListN.{length}
use Rattle.field.specs.Ext as E
use Rattle.field.specs.Extension.{Extension}
use Rattle.field.specs.Element.{words}
use Rattle.gkr.specs.Run.{Frac, Proof}
use Rattle.gkr.specs.Sizes.{challenges, log_words}
use Rattle.gkr.specs.Tests.{either}
use Rattle.gkr.specs.Transcripts.{Words, Source, empty}
use Rattle.gkr.proofs.TranscriptLaws as TranscriptLaws
use Rattle.gkr.specs.TranscriptLaws.{sampled_words}
use Rattle.gkr.specs.Gkr as Gkr
use Rattle.gkr.specs.Gkr.{accepted, zero_rounds, layer_count, poly_count, zero_check, root_check, subround_count, layer_check}
use Rattle.transcript.specs.declared.Used.{Used}
use Rattle.transcript.specs.Log.{Drawing}
use Rattle.transcript.specs.Bound.{bound}
use Rattle.transcript.specs.BoundLaws.{bound_used, bound_words, bound_marked}
use Rattle.transcript.specs.Used.{used, unused, used_up}
use Rattle.transcript.specs.UsedLaws.{unmarked}
use Rattle.refusal.specs.declared.Refusal.{Refusal}
use Rattle.refusal.specs.Numbers.{report_of}
use Rattle.refusal.specs.Tests.{Tested, passed, refused, first_of}
use Rattle.sizes.specs.Sizes.{log_room}
use Rattle.stored.specs.Parse.{sized, proof_of}
use Rattle.stored.specs.Elements.{decoded}
use Rattle.verifier_round.specs.declared.Claims.{Claims}
use Rattle.verifier_round.specs.AdvanceLaws.{accepted_or_refused}
use Rattle.verifier_round.specs.Verdicts.{Model, answer_of, left_by}
use Rattle.verifier.specs.Verified.{Asked, Lent, Outcome, outcome, source_of, tests, ended, fronts, verified}
use Rattle.verifier.specs.Companions.{UsedUp}
use Rattle.verifier.proofs.Leaving.{run_log}

-- of n rounds, the size bound or not, by what is written at the fronts
record Told (size : Bool) (n : ℕ) (f : Outcome) : Type 0 where
  words : length f.buffers.log ≡ f.used.words
  sampled : length (sampled_words f.buffers.log) ≡ 4 * f.used.challenges
  most : 1 ≤ n → (f.used.challenges ≤ challenges n) × (f.used.words ≤ log_room true size n)
  whole : (c : Claims) → f.answer ≡ Ok c → 1 ≤ n → f.used ≡ used (challenges n) (log_room true size n)
  none : (e : Refusal) → f.answer ≡ Err e → ¬ ((16 ≤ (report_of e).number) × ((report_of e).number ≤ 19)) → f.used ≡ unused
  no_rounds : n ≡ 0 → f.used ≡ unused

-- no run
told_nothing : (size : Bool) (n : ℕ) (v : Result Claims Refusal) → ((c : Claims) → v ≡ Ok c → 1 ≤ n → ⊥) → Told size n (outcome v unused [] [])
unfolding sampled_words
told_nothing size n v h =
    record {
      words = refl;
      sampled = refl;
      most = λ _. (omega arith, omega arith);
      whole = λ c q s. absurd (h c q s);
      none = λ e q o. refl;
      no_rounds = λ z. refl;
    }

-- a run
module _ (ch : Source E.Ext) (π : Proof E.Ext) (size : Bool) where
  abbrev begun : ℕ → Words
  begun n = bound size n empty

  abbrev run : ℕ → Model ch
  run n = Gkr.verify_gkr Extension (Drawing ch) n π (begun n)

  -- what holds of an empty log and of what a verdict leaves after one that is begun
  left_of : (Q : Words → Type 0) (t : Words) (v : Model ch) → Q empty → Q (Gkr.log_after Extension (Drawing ch) t v) → Q (left_by ch v)
  left_of Q t (accepted f z u) e h = h
  left_of Q t zero_rounds e h = e
  left_of Q t (layer_count expected actual) e h = e
  left_of Q t (poly_count expected actual) e h = e
  left_of Q t (zero_check actual u) e h = h
  left_of Q t (root_check expected actual u) e h = h
  left_of Q t (subround_count round expected actual u) e h = h
  left_of Q t (layer_check round expected actual u) e h = h

  -- one that accepts is the model's
  accepts : (v : Model ch) (u : Used) → ((f : Frac E.Ext) (z : List E.Ext) (t : Words) → v ≡ accepted f z t → used_up t ≡ u) → (c : Claims) → answer_of ch v ≡ Ok c → used_up (left_by ch v) ≡ u
  accepts (accepted f z t) u h c q = h f z t refl
  accepts zero_rounds u h c q = absurd (accepted_or_refused (sym q))
  accepts (layer_count expected actual) u h c q = absurd (accepted_or_refused (sym q))
  accepts (poly_count expected actual) u h c q = absurd (accepted_or_refused (sym q))
  accepts (zero_check actual t) u h c q = absurd (accepted_or_refused (sym q))
  accepts (root_check expected actual t) u h c q = absurd (accepted_or_refused (sym q))
  accepts (subround_count round expected actual t) u h c q = absurd (accepted_or_refused (sym q))
  accepts (layer_check round expected actual t) u h c q = absurd (accepted_or_refused (sym q))

  -- and uses up a whole run's
  run_whole : (m : ℕ) (f : Frac E.Ext) (z : List E.Ext) (t : Words) → run (suc m) ≡ accepted f z t → used_up t ≡ used (challenges (suc m)) (log_room true size (suc m))
  run_whole m f z t q =
      ap₂ used (TranscriptLaws.accepted_draws Extension words ch m π (begun (suc m)) f z t q ∙ ap (λ k. k + challenges (suc m)) (bound_used size (suc m)) ∙ zero-add _)
      (TranscriptLaws.accepted_words Extension words ch (λ x. refl) m π (begun (suc m)) f z t q ∙ ap (λ k. k + log_words true (suc m)) (bound_words size (suc m)))

  run_sampled : (n : ℕ) → length (sampled_words (left_by ch (run n)).log) ≡ 4 * (left_by ch (run n)).used
  unfolding sampled_words
  run_sampled n =
      left_of (λ t. length (sampled_words t.log) ≡ 4 * t.used) (begun n) (run n) refl
      (TranscriptLaws.left_marked Extension words ch (λ x. refl) unmarked n π (begun n) (bound_marked size n))

  told_run : (n : ℕ) → 1 ≤ n → Told size n (ended ch (run n))
  told_run n some =
      let e : n ≡ suc (n - 1) = omega arith in
      let r : log_room true size n ≡ cond size 4 0 + log_words true n = ap (log_room true size) e ∙ ap (λ k. cond size 4 0 + log_words true k) (sym e) in
      record {
        words = refl;
        sampled = run_sampled n;
        most = λ _. (
          left_of (λ t. t.used ≤ challenges n) (begun n) (run n) (omega arith) (omega (arith, bound_used size n, TranscriptLaws.left_draws Extension words ch n π (begun n))),
          left_of (λ t. length t.log ≤ log_room true size n) (begun n) (run n) (omega arith) (omega (arith, r, bound_words size n, TranscriptLaws.left_words Extension words ch (λ x. refl) n π (begun n))),
        );
        whole = λ c q _. accepts (run n) _ (λ f z t w. run_whole (n - 1) f z t (ap run (sym e) ∙ w) ∙ ap (λ k. used (challenges k) (log_room true size k)) (sym e)) c q;
        none = λ r q o. ap used_up (run_log r ch (run n) q o);
        no_rounds = λ z. absurd (omega arith);
      }

told : (a : Asked) (w : Tested) → Told (sized a.proof) a.rounds (fronts a w)
told a (refused e) = told_nothing (sized a.proof) a.rounds (Err e) (λ c q s. accepted_or_refused (sym q))
told a passed =
    either (Told (sized a.proof) a.rounds) (eqb a.rounds 0) _ _ (λ h. told_nothing (sized a.proof) a.rounds _ (λ c q s. omega (arith, eqb-true a.rounds 0 h)))
    (λ h. told_run (source_of a) (decoded (proof_of a.proof)) (sized a.proof) a.rounds (omega (arith, eqb-false a.rounds 0 h)))

pub used_up_is : (a : Asked) (b : Lent) → UsedUp a b
unfolding verified
used_up_is a b =
    let w = first_of (tests a (length b.point) (length b.log)) in
    let t = told a w in
    record {
      written = (fronts a w).buffers.log;
      log = refl;
      words = t.words;
      sampled = t.sampled;
      most = t.most;
      whole = t.whole;
      none = t.none;
      no_rounds = t.no_rounds;
    }
