-- The challenges that a replay takes from a log: canonical, as many as any run takes, and the sampled words of a log whose sampled words are canonical.
-- Assumes nothing.
use mathlib.Core.Path.{◌≡◌, refl, ◌∙◌, ap, ap₂}
use mathlib.Core.Bool.{Bool, true, false, cond}
use mathlib.Core.List.{List, [], ◌∷◌, ◌++◌, map}
use Prim.Native.Nat.{ℕ, suc, ◌+◌, ◌*◌, ◌-◌, ◌^◌, ◌≤◌, ◌<◌}
use native.Mathlib.Omega.{arith}
use lib.Dec.{ltb}
use lib.ListN.{length, length-append, length-replicate, take, replicate}
use lib.Seq.{length-take-le}
use borrow.Author.Tests.{lt-ltb, ltb-true}
use Rattle.field.specs.Base.{P}
use Rattle.field.specs.Cells.{cell, Clean}
use Rattle.field.specs.CellLaws.{clean_nil, clean_cons, clean_append, clean_take, clean_zeros, cell_take, cell_left}
use Rattle.gkr.specs.Samples.{unmark, words_sampled}
use Rattle.gkr.specs.TranscriptLaws.{sampled_words}
use Rattle.wire.specs.Words.{all_canonical}
use Rattle.log_replay.specs.Replayed.{plain_word, most_words, challenges_of}

plain_below : (w : ℕ) → plain_word w < P
plain_below w = go (ltb (w - 2 ^ 31) P) refl
  where
    go : (b : Bool) → ltb (w - 2 ^ 31) P ≡ b → cond b (w - 2 ^ 31) 0 < P
    go true e = ltb-true (w - 2 ^ 31) P e
    go false e = omega arith

clean_plain : (ws : List ℕ) → Clean (map plain_word ws)
clean_plain [] = clean_nil
clean_plain (w ∷ ws) = clean_cons (plain_word w) (plain_below w) (clean_plain ws)

pub clean_challenges : (log : List ℕ) → Clean (challenges_of log)
clean_challenges log = clean_take most_words _ (clean_append (map plain_word (sampled_words log)) (replicate most_words 0) (clean_plain (sampled_words log)) (clean_zeros most_words))

pub length_challenges : (log : List ℕ) → length (challenges_of log) ≡ most_words
length_challenges log =
    let l = map plain_word (sampled_words log) in
    length-take-le most_words (l ++ replicate most_words 0) (omega (arith, length-append l (replicate most_words 0), length-replicate {A = ℕ} most_words 0))

-- canonical words are not changed
plain_same : (ws : List ℕ) → Clean (map unmark ws) → map plain_word ws ≡ map unmark ws
plain_same [] c = refl
plain_same (w ∷ ws) c = ap₂ ◌∷◌ (ap (λ t. cond t (w - 2 ^ 31) 0) (lt-ltb (w - 2 ^ 31) P (c.below 0))) (plain_same ws (record { below = λ k. c.below (suc k) }))

-- so a challenge that stands in the log is found
pub taken : (log : List ℕ) (n k : ℕ) → Clean (words_sampled log) → 4 * k + 4 ≤ n → n ≤ most_words → 4 * k + 4 ≤ length (words_sampled log) → cell (take n (challenges_of log)) k ≡ cell (words_sampled log) k
taken log n k c h most there =
    let l = words_sampled log in
    cell_take n (challenges_of log) k h
    ∙ cell_take most_words (map plain_word (sampled_words log) ++ replicate most_words 0) k (omega (arith, h, most))
    ∙ ap (λ m. cell (m ++ replicate most_words 0) k) (plain_same (sampled_words log) c)
    ∙ cell_left l (replicate most_words 0) k there

pub clean_canonical : (ws : List ℕ) → Clean ws → all_canonical ws ≡ true
unfolding all_canonical
clean_canonical [] c = refl
clean_canonical (w ∷ ws) c = ap (λ t. cond t (all_canonical ws) false) (lt-ltb w P (c.below 0)) ∙ clean_canonical ws (record { below = λ k. c.below (suc k) })
