-- A run from the challenges that stand in the log that it left is the same run, whether they are drawn or lent.
-- Assumes nothing.
use mathlib.Core.Path.{◌≡◌, refl, sym, ◌∙◌, ap, subst}
use mathlib.Core.Bool.{Bool, true, false}
use mathlib.Core.List.{List, [], map}
use Prim.Native.Nat.{ℕ, ◌*◌, ◌≤◌, ◌<◌}
use native.Mathlib.Omega.{arith}
use lib.ListN.{length, length-map, take}
use Rattle.field.specs.Ext as E
use Rattle.field.specs.Extension.{Extension}
use Rattle.field.specs.Element.{words}
use Rattle.field.specs.Cells.{Clean}
use Rattle.field.specs.CellLaws.{clean_nil, clean_append, clean_words}
use Rattle.gkr.specs.Run.{Proof}
use Rattle.gkr.specs.Sizes.{challenges}
use Rattle.gkr.specs.Transcripts.{Words, Source, empty}
use Rattle.gkr.proofs.TranscriptLaws as TranscriptLaws
use Rattle.gkr.specs.TranscriptLaws.{sampled_words}
use Rattle.gkr.proofs.TranscriptLaws.{Marked}
use Rattle.gkr.specs.Gkr as Gkr
use Rattle.gkr.proofs.Keeps as Keeps
use Rattle.gkr.proofs.ReadLaws as Reads
use Rattle.gkr.specs.Samples.{unmark, words_sampled}
use Rattle.gkr.proofs.Samples.{drawn_sampled, observed_sampled}
use Rattle.gkr.proofs.Replays as Replays
use Rattle.gkr.proofs.Replays.{ext_layout}
use Rattle.transcript.specs.Source.{source}
use Rattle.transcript.specs.Log.{Drawing}
use Rattle.transcript.specs.Bound.{bound}
use Rattle.transcript.specs.UsedLaws.{unmarked}
use Rattle.refusal.specs.Limits.{max_rounds}
use Rattle.sizes.specs.Sizes.{needed_words}
use Rattle.log_replay.specs.Replayed.{challenges_of}
use Rattle.log_replay.proofs.Values.{taken}
use Rattle.log_replay.proofs.Calls.{few_challenges}

-- A RUN'S FIRST LOG: no challenge is used, and none stands in it

pub record Fresh (t : Words) : Type 0 where
  pub unused : t.used ≡ 0
  pub none : sampled_words t.log ≡ []

pub bound_fresh : (sized : Bool) (n : ℕ) → Fresh (bound sized n empty)
unfolding sampled_words
bound_fresh true n = record { unused = refl; none = unmarked (E.ext n 0 0 0) }
bound_fresh false n = record { unused = refl; none = refl }

fresh_marked : (t : Words) → Fresh t → Marked t
fresh_marked t f = ap length f.none ∙ omega (arith, f.unused)

module _ (ch : Source E.Ext) (n : ℕ) (π : Proof E.Ext) (t : Words) (fresh : Fresh t) where
  abbrev left : Words
  left = Gkr.log_after Extension (Drawing ch) t (Gkr.verify_gkr Extension (Drawing ch) n π t)

  -- the challenges in the log that is left are canonical, and four words each
  left_clean : Clean (words_sampled left.log)
  left_clean =
      Keeps.verify_keeps Extension (Drawing ch) (λ u. Clean (words_sampled u.log))
      (λ x u c. subst Clean (sym (observed_sampled words ext_layout.below ch x u)) c)
      (λ u c. subst Clean (sym (drawn_sampled words ch u)) (clean_append (words_sampled u.log) (words (ch u)) c (clean_words (ch u))))
      n π t (subst (λ l. Clean (map unmark l)) (sym fresh.none) clean_nil)

  left_count : length (words_sampled left.log) ≡ 4 * left.used
  left_count = length-map (sampled_words left.log) unmark ∙ TranscriptLaws.left_marked Extension words ch (λ x. refl) unmarked n π t (fresh_marked t fresh)

  left_few : left.used ≤ challenges n
  left_few = omega (arith, TranscriptLaws.left_draws Extension words ch n π t, fresh.unused)

-- THE SAME RUN

pub same_run : (drawn : Bool) (buffer : List ℕ) (n : ℕ) (π : Proof E.Ext) (t : Words) → Fresh t → n ≤ max_rounds
    → let ch = source drawn buffer in
    let v = Gkr.verify_gkr Extension (Drawing ch) n π t in
    let ch' = source drawn (take (needed_words drawn n) (challenges_of (Gkr.log_after Extension (Drawing ch) t v).log)) in
    Reads.Same Extension words ch ch' v (Gkr.verify_gkr Extension (Drawing ch') n π t)
same_run true buffer n π t fresh few = Reads.reads_only Extension words (source true buffer) (source true []) n π t (λ u _. refl)
same_run false buffer n π t fresh few =
    let ch = source false buffer in
    let v = Gkr.verify_gkr Extension (Drawing ch) n π t in
    let u = Gkr.log_after Extension (Drawing ch) t v in
    let r = Replays.replayed Extension ext_layout ch u.log in
    let w = Gkr.verify_gkr Extension (Drawing r) n π t in
    let ch' = source false (take (needed_words false n) (challenges_of u.log)) in
    let same = Replays.replays Extension ext_layout ch n π t (fresh_marked t fresh) in
    let e = Reads.same_log Extension words ch r t v w same in
    Reads.same_then Extension words ch r ch' v w (Gkr.verify_gkr Extension (Drawing ch') n π t) same
    (Reads.reads_only Extension words r ch' n π t (λ x h.
    let l : x.used < u.used = subst (λ (y : Words). x.used < y.used) (sym e) h in
    sym (taken u.log (4 * challenges n) x.used (left_clean ch n π t fresh) (omega (arith, l, left_few ch n π t fresh)) (few_challenges n few) (omega (arith, l, left_count ch n π t fresh)))))
