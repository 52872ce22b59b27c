-- The challenges that a run samples stand in the log that it leaves, where no word of an element has its top bit set.
-- Assumes nothing.
use Rattle.std.specs.Prelude.{◌≡◌, cond, List, [], ◌∷◌, ◌++◌, map, ℕ, zero, suc, ◌<◌, ◌^◌, get_or}
use Rattle.std.proofs.Math.Path.{refl, ap₂}
use Rattle.std.proofs.Common.{◌∙◌, ap, arith}
use Rattle.std.proofs.lemmas.List.{map-append}
use Rattle.std.proofs.lemmas.Bool.{lt-leb}
use Rattle.ring.specs.Field.{Field}
use Rattle.gkr.specs.Run.{Proof}
use Rattle.gkr.specs.Gkr
use Rattle.gkr.specs.Transcripts.{mark, Words, empty, Source, drawing}
use Rattle.gkr.proofs.Keeps
use Rattle.gkr.specs.TranscriptLaws.{sampled_words}
use Rattle.gkr.proofs.TranscriptLaws.{drawn_adds, observe_adds}
use Rattle.gkr.specs.Samples.{unmark, words_sampled}

unmark_mark : (ws : List ℕ) → map unmark (map mark ws) ≡ ws
unmark_mark [] = refl
unmark_mark (w ∷ ws) = ap₂ ◌∷◌ (omega arith) (unmark_mark ws)

pub sampled_none : (ws : List ℕ) → ((k : ℕ) → get_or ws k 0 < 2 ^ 31) → sampled_words ws ≡ []
unfolding sampled_words
sampled_none [] h = refl
sampled_none (w ∷ ws) h = ap (λ t. cond t (w ∷ sampled_words ws) (sampled_words ws)) (lt-leb (2 ^ 31) w (h 0)) ∙ sampled_none ws (λ k. h (suc k))

module _ {A : Type 0} (words : A → List ℕ) where
  -- a challenge appends its words
  pub drawn_sampled : (s : Source A) (t : Words) → words_sampled ((drawing words s).drawn t).log ≡ words_sampled t.log ++ words (s t)
  drawn_sampled s t =
      ap (map unmark) (drawn_adds words s t)
      ∙ map-append unmark (sampled_words t.log) (map mark (words (s t)))
      ∙ ap (λ l. words_sampled t.log ++ l) (unmark_mark (words (s t)))

  -- an observation leaves them as they are
  pub observed_sampled : (below : (x : A) (k : ℕ) → get_or (words x) k 0 < 2 ^ 31) (s : Source A) (x : A) (t : Words)
      → words_sampled ((drawing words s).observe x t).log ≡ words_sampled t.log
  observed_sampled below s x t = ap (map unmark) (observe_adds words s (λ x. sampled_none (words x) (below x)) x t)

  -- the words of c 0, c 1, .. c (k - 1)
  unfoldable pub first_words : (c : ℕ → A) (k : ℕ) → List ℕ
  first_words c zero = []
  first_words c (suc k) = first_words c k ++ words (c k)

module _ (F : Field) (words : F.ring.carrier → List ℕ) (below : (x : F.ring.carrier) (k : ℕ) → get_or (words x) k 0 < 2 ^ 31) (s : Source F.ring.carrier) (c : ℕ → F.ring.carrier) (by_count : (t : Words) → s t ≡ c t.used) where
  -- the sampled words of a log are those of the challenges used so far
  abbrev pub Logged : Words → Type 0
  Logged t = words_sampled t.log ≡ first_words words c t.used

  observed_logged : (x : F.ring.carrier) (t : Words) → Logged t → Logged ((drawing words s).observe x t)
  observed_logged x t h = observed_sampled words below s x t ∙ h

  drawn_logged : (t : Words) → Logged t → Logged ((drawing words s).drawn t)
  unfolding first_words
  drawn_logged t h = drawn_sampled words s t ∙ ap₂ (λ l x. l ++ words x) h (by_count t)

  -- accepted or not
  pub left_logged : (n : ℕ) (π : Proof F.ring.carrier) (t : Words) → Logged t → Logged (Gkr.log_after F (drawing words s) t (Gkr.verify_gkr F (drawing words s) n π t))
  left_logged = Keeps.verify_keeps F (drawing words s) Logged observed_logged drawn_logged

  -- an empty log begins so
  pub empty_logged : Logged empty
  unfolding sampled_words first_words
  empty_logged = refl
