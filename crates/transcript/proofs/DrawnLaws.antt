-- A drawn challenge: four words, each drawn over the log that holds the one before.
-- Assumes nothing.
use mathlib.Core.Path.{◌≡◌, sym, ◌∙◌, ap, subst}
use mathlib.Core.List.{List, [], ◌∷◌, ◌++◌}
use Prim.Native.Nat.{ℕ, suc, ◌+◌, ◌<◌, ◌≤◌}
use native.Mathlib.Omega.{arith}
use lib.ListN.{length, take, set, length-set}
use lib.Seq.{take-suc-set}
use Rattle.field.specs.Cells.{cell}
use Rattle.field.specs.Element.{Is}
use Rattle.gkr.specs.Transcripts.{mark}
use Rattle.shake.specs.Drawn.{message, Holds}
use Rattle.shake.proofs.SpongeLaws.{holds_grown}
use Rattle.transcript.specs.declared.DrawnWord.{DrawnWord}
use Rattle.transcript.specs.Source.{label, drawn_words, drawn_source}
use Rattle.transcript.specs.Log.{Drawing, State, Steps, WordDrawn, log_of}
use Rattle.transcript.proofs.Logs.{four, sampled}

-- ---- one word: the log with it, and its sponge

module _ {l l' : List ℕ} {put : ℕ} {r : DrawnWord} (w : WordDrawn l l' put r) where
  pub length_with : length l' ≡ length l
  length_with = ap length w.log ∙ length-set l put (mark r.word)

  pub log_with : (n : ℕ) → n ≡ suc put → put < length l → take n l' ≡ take put l ++ (mark r.word ∷ [])
  log_with n e h = (λ i. take (e i) (w.log i)) ∙ take-suc-set l put (mark r.word) h

  pub holds_with : (n : ℕ) → n ≡ suc put → put < length l → Holds r.sponge (message label (take n l'))
  holds_with n e h =
      subst (λ (u : List ℕ). Holds r.sponge (message label u)) (sym (log_with n e h)) (holds_grown label (take put l) (mark r.word ∷ []) w.holds)

  -- it is the first of the words that are drawn in turn, and the others are drawn over the log with it
  first_of : (k n : ℕ) → n ≡ suc put → put < length l → drawn_words (suc k) (take put l) ≡ r.word ∷ drawn_words k (take n l')
  unfolding drawn_words
  first_of k n e h =
      (λ i. sym w.word i ∷ drawn_words k (take put l ++ (mark (sym w.word i) ∷ []))) ∙ ap (λ (u : List ℕ). r.word ∷ drawn_words k u) (sym (log_with n e h))

-- ---- four words

module _ (s : State) {l₁ l₂ l₃ l₄ : List ℕ} {a b c d : DrawnWord} (h : s.put + 4 ≤ length s.buffer)
    (wa : WordDrawn s.buffer l₁ s.put a) (wb : WordDrawn l₁ l₂ (s.put + 1) b) (wc : WordDrawn l₂ l₃ (s.put + 2) c) (wd : WordDrawn l₃ l₄ (s.put + 3) d) where
  abbrev put : ℕ
  put = s.put

  abbrev l : List ℕ
  l = s.buffer

  len₁ : length l₁ ≡ length l
  len₁ = length_with wa

  len₂ : length l₂ ≡ length l
  len₂ = length_with wb ∙ len₁

  len₃ : length l₃ ≡ length l
  len₃ = length_with wc ∙ len₂

  four_words : drawn_words 4 (take put l) ≡ a.word ∷ b.word ∷ c.word ∷ d.word ∷ []
  unfolding drawn_words
  four_words =
      first_of wa 3 (put + 1) (omega arith) (omega arith)
      ∙ ap (λ (u : List ℕ). a.word ∷ u) (first_of wb 2 (put + 2) (omega arith) (omega (arith, len₁)))
      ∙ ap (λ (u : List ℕ). a.word ∷ b.word ∷ u) (first_of wc 1 (put + 3) (omega arith) (omega (arith, len₂)))
      ∙ ap (λ (u : List ℕ). a.word ∷ b.word ∷ c.word ∷ u) (first_of wd 0 (put + 4) (omega arith) (omega (arith, len₃)))

  pub drawn_is : Is (record { c0 = a.word; c1 = b.word; c2 = c.word; c3 = d.word }) (drawn_source (log_of s))
  unfolding cell
  drawn_is = record {
    canon = record { c0 = wa.below; c1 = wb.below; c2 = wc.below; c3 = wd.below };
    value = ap (λ (ws : List ℕ). cell ws 0) (sym four_words);
  }

  logged : l₄ ≡ four l put (mark a.word) (mark b.word) (mark c.word) (mark d.word)
  logged =
      wd.log
      ∙ ap (λ (u : List ℕ). set u (put + 3) (mark d.word))
      (wc.log ∙ ap (λ (u : List ℕ). set u (put + 2) (mark c.word)) (wb.log ∙ ap (λ (u : List ℕ). set u (put + 1) (mark b.word)) wa.log))

  -- the state with the sponge of the last word
  pub drawn_steps : Steps s (record { buffer = l₄; put = put + 4; used = s.used + 1; sponge = d.sponge; drawn = s.drawn; challenges = s.challenges }) 4 1 ((Drawing drawn_source).drawn (log_of s))
  drawn_steps =
      subst
      (λ (u : List ℕ). Steps s (record { buffer = u; put = put + 4; used = s.used + 1; sponge = d.sponge; drawn = s.drawn; challenges = s.challenges }) 4 1 ((Drawing drawn_source).drawn (log_of s)))
      (sym logged)
      (sampled s drawn_source (record { c0 = a.word; c1 = b.word; c2 = c.word; c3 = d.word }) d.sponge h drawn_is
      (λ k. subst (λ (u : List ℕ). Holds d.sponge (message label (take (put + 4) u))) logged (holds_with wd (put + 4) (omega arith) (omega (arith, len₃)))))
