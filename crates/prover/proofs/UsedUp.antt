-- What a call used up is what its log says: a run that is done has sampled all its challenges and written its whole log, and a refusal nothing.
-- Assumes nothing.
use mathlib.Core.Path.{◌≡◌, refl, sym, ◌∙◌, ap}
use mathlib.Core.Bool.{Bool}
use mathlib.Core.List.{List, []}
use Prim.Native.Nat.{ℕ, zero, suc, ◌+◌}
use native.Mathlib.Nat.{zero-add}
use lib.Dec.{eqb}
use lib.ListN.{length, take}
use Rattle.field.specs.Ext as E
use Rattle.field.specs.Element.{words}
use Rattle.field.specs.Extension.{Extension}
use Rattle.gkr.specs.Sizes.{challenges, log_words}
use Rattle.gkr.specs.Tests.{either}
use Rattle.gkr.specs.Transcripts.{empty, Source}
use Rattle.gkr.proofs.TranscriptLaws as TranscriptLaws
use Rattle.gkr.specs.TranscriptLaws.{sampled_words}
use Rattle.gkr.specs.Gkr as Gkr
use Rattle.gkr.specs.Gkr.{done, non_zero_root_sum}
use Rattle.transcript.specs.Source.{supplied, source}
use Rattle.transcript.specs.Log.{Drawing, Observing}
use Rattle.transcript.specs.Bound.{bound}
use Rattle.transcript.specs.BoundLaws.{bound_used, bound_words, bound_marked}
use Rattle.transcript.specs.Used.{used, unused}
use Rattle.transcript.specs.UsedLaws.{unmarked}
use Rattle.prover_tree.specs.Nodes.{node}
use Rattle.refusal.specs.Tests.{Tested, passed, refused}
use Rattle.refusal.specs.declared.Refusal.{Refusal}
use Rattle.refusal.specs.declared.Refusal.TheVariants.{NonZeroRootSum}
use Rattle.sizes.specs.Sizes.{row_count, rounds_of, needed_words, log_room}
use Rattle.prover_gate.specs.Refusals.{Call, first_refusal}
use Rattle.std.specs.Prelude.{Err}
use Rattle.prover.specs.Proved.{outcome, finished, after, one_row, ran, entered, fronts}
use Rattle.prover.specs.Companions.{UsedUp, UsingUp}
use Rattle.prover.proofs.Theorems.{done_refused, same_rounds}

module _ (c : Call) where
  abbrev asserted : Bool
  asserted = c.modes.assert_zero

  abbrev sized : Bool
  sized = c.modes.sized

  -- a refusal logs nothing, whatever it leaves of the workspace
  refuses : (e : Refusal) (work : List ℕ) → UsedUp c (outcome (Err e) unused [] [] [] work)
  unfolding sampled_words
  refuses e work = record { words = refl; sampled = refl; done = λ n s h. absurd (done_refused n s e (sym h)); none = λ x h. refl }

  no_rows : UsedUp c (finished (supplied []) sized 0 (Gkr.no_rows Extension Observing empty))
  unfolding sampled_words
  no_rows =
      record {
        words = refl;
        sampled = refl;
        done = λ n s h. let k = same_rounds h in ap (λ (j : ℕ). used (challenges j) (log_room asserted sized j)) k;
        none = λ x h. absurd (done_refused 0 _ x h);
      }

  run_uses : (ch : Source E.Ext) (m : ℕ) (a : Gkr.Answer Extension (Drawing ch)) → Gkr.fractional_sumcheck Extension (Drawing ch) asserted m (node c.rows) (bound sized (suc m) empty) ≡ a → UsedUp c (after ch sized (suc m) a)
  unfolding sampled_words
  run_uses ch m (done P) e =
      let start = bound sized (suc m) empty in
      let drew : P.log.used ≡ challenges (suc m) = TranscriptLaws.done_draws Extension words ch asserted m (node c.rows) start P e ∙ ap (λ k. k + challenges (suc m)) (bound_used sized (suc m)) ∙ zero-add _ in
      let wrote : length P.log.log ≡ log_room asserted sized (suc m) = TranscriptLaws.done_words Extension words ch (λ x. refl) asserted m (node c.rows) start P e ∙ ap (λ k. k + log_words asserted (suc m)) (bound_words sized (suc m)) in
      record {
        words = refl;
        sampled = TranscriptLaws.done_marked Extension words ch (λ x. refl) unmarked asserted m (node c.rows) start P e (bound_marked sized (suc m));
        done = λ n s h. let k = same_rounds h in (λ i. used (drew i) (wrote i)) ∙ ap (λ (j : ℕ). used (challenges j) (log_room asserted sized j)) k;
        none = λ x h. absurd (done_refused (suc m) _ x h);
      }
  run_uses ch m non_zero_root_sum e = refuses NonZeroRootSum _

  rounds_use : (n : ℕ) → UsedUp c (ran c.rows c.modes c.challenges n)
  rounds_use zero = either (UsedUp c) (eqb (row_count c.rows) 0) _ _ (λ e. no_rows) (λ e. refuses (one_row c.rows asserted) [])
  rounds_use (suc m) = run_uses (source c.modes.drawn (take (needed_words c.modes.drawn (suc m)) c.challenges)) m _ refl

  enters : (t : Tested) → UsedUp c (entered c t)
  enters passed = rounds_use (rounds_of (row_count c.rows))
  enters (refused e) = refuses e []

pub using_up : UsingUp
unfolding fronts
using_up c r = enters c (first_refusal c r)
