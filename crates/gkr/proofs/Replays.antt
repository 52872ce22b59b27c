-- A log that the verifier left replays: with the challenges that stand in it, in their order, the verifier runs as before. This holds for challenges from any source.
-- Assumes nothing.
use Rattle.std.specs.Prelude.{◌≡◌, refl, List, [], ◌++◌, ℕ, ◌*◌, ◌<◌, ◌^◌, length, get_or}
use Rattle.std.proofs.Common.{sym, ◌∙◌, ap, append-nil, append_assoc, add-zero, arith}
use Rattle.std.proofs.lemmas.List.{length-map}
use Rattle.ring.specs.Field.{Field}
use Rattle.field.specs.Ext.{Ext}
use Rattle.field.specs.Element.{words}
use Rattle.field.specs.Cells.{cell}
use Rattle.field.specs.CellLaws.{clean_words, cell_right, cell_words}
use Rattle.gkr.specs.Run.{Transcript, Proof}
use Rattle.gkr.specs.Gkr
use Rattle.gkr.specs.Transcripts.{Words, Source, drawing}
use Rattle.gkr.proofs.TranscriptLaws
use Rattle.gkr.specs.TranscriptLaws.{sampled_words}
use Rattle.gkr.proofs.TranscriptLaws.{Marked, observe_adds}
use Rattle.gkr.proofs.ReadLaws as Reads
use Rattle.gkr.specs.Samples.{unmark, words_sampled}
use Rattle.gkr.proofs.Samples.{sampled_none, drawn_sampled, observed_sampled}

-- how elements stand in words: four words, none with its top bit set; `at ws k` is the k-th element of ws
pub record Layout (A : Type 0) : Type 0 where
  pub words : A → List ℕ
  pub at : List ℕ → ℕ → A
  pub below : (x : A) (k : ℕ) → get_or (words x) k 0 < 2 ^ 31
  pub four : (x : A) → length (words x) ≡ 4
  pub found : (before after : List ℕ) (x : A) (k : ℕ) → length before ≡ 4 * k → at (before ++ (words x ++ after)) k ≡ x

-- the extension's elements, as cells
abbrev pub ext_layout : Layout Ext
ext_layout = record {
  words = words;
  at = cell;
  below = λ x k. omega (arith, (clean_words x).below k);
  four = λ x. refl;
  found = λ before after x k e. ap (cell (before ++ (words x ++ after))) (sym (add-zero k)) ∙ cell_right before (words x ++ after) k 0 e ∙ cell_words x after;
}

module _ (F : Field) (L : Layout F.ring.carrier) (s : Source F.ring.carrier) where
  abbrev R : Type 0
  R = F.ring.carrier

  abbrev S : Transcript R
  S = drawing L.words s

  -- the challenges that stand in a log, used in their order
  abbrev pub replayed : (log : List ℕ) → Source R
  replayed log t = L.at (words_sampled log) t.used

  plain : (x : R) → sampled_words (L.words x) ≡ []
  plain x = sampled_none (L.words x) (L.below x)

  same_sampled : (x : R) (t : Words) → words_sampled (S.observe x t).log ≡ words_sampled t.log
  same_sampled = observed_sampled L.words L.below s

  -- a log whose challenges are the first of those that `end` holds
  record Start (end : List ℕ) (t : Words) : Type 0 where
    rest : List ℕ
    joined : words_sampled t.log ++ rest ≡ words_sampled end
    counted : Marked t

  observed_start : (end : List ℕ) (x : R) (t : Words) → Start end (S.observe x t) → Start end t
  observed_start end x t h = record {
    rest = h.rest;
    joined = ap (λ l. l ++ h.rest) (sym (same_sampled x t)) ∙ h.joined;
    counted = ap length (sym (observe_adds L.words s plain x t)) ∙ h.counted;
  }

  -- what a challenge is followed by
  parted : (end : List ℕ) (t : Words) (h : Start end (S.drawn t)) → words_sampled t.log ++ (L.words (s t) ++ h.rest) ≡ words_sampled end
  parted end t h = sym (append_assoc (words_sampled t.log) (L.words (s t)) h.rest) ∙ ap (λ l. l ++ h.rest) (sym (drawn_sampled L.words s t)) ∙ h.joined

  drawn_start : (end : List ℕ) (t : Words) → Start end (S.drawn t) → Start end t
  drawn_start end t h = record { rest = L.words (s t) ++ h.rest; joined = parted end t h; counted = omega (arith, h.counted, TranscriptLaws.drawn_marks F L.words s L.four t) }

  read_start : (end : List ℕ) (t : Words) → Start end (S.drawn t) → s t ≡ replayed end t
  read_start end t h = sym (L.found (words_sampled t.log) h.rest (s t) t.used (length-map (sampled_words t.log) unmark ∙ (drawn_start end t h).counted)) ∙ ap (λ l. L.at l t.used) (parted end t h)

  -- accepted or not: the same verdict, so the same log
  pub replays : (n : ℕ) (π : Proof R) (t : Words) → Marked t
      → let v = Gkr.verify_gkr F S n π t in
      let r = replayed (Gkr.log_after F S t v).log in Reads.Same F L.words s r v (Gkr.verify_gkr F (drawing L.words r) n π t)
  replays n π t h =
      let u = Gkr.log_after F S t (Gkr.verify_gkr F S n π t) in
      Reads.reads_along F L.words s (replayed u.log) (record { On = Start u.log; observed = observed_start u.log; sampled = drawn_start u.log }) (read_start u.log) n π t
      (record { rest = []; joined = append-nil _; counted = TranscriptLaws.left_marked F L.words s L.four plain n π t h })
