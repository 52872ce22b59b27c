-- The sampled words of a log poured into zeros are the log's challenges.
-- Assumes nothing.
use mathlib.Core.Path.{◌≡◌, refl, sym, ◌∙◌, ap, ap₂}
use mathlib.Core.Bool.{Bool, true, false, cond, ◌&&◌}
use mathlib.Core.List.{List, [], ◌∷◌, ◌++◌, map, append_assoc}
use Prim.Native.Nat.{ℕ, zero, suc, ◌+◌, ◌^◌, ◌<◌, ◌≤◌}
use native.Mathlib.Nat.{le_of_suc-le-suc}
use native.Mathlib.Omega.{arith}
use borrow.Author.Tests.{lt-ltb, le-ltb}
use lib.Dec.{leb, ltb}
use lib.ListN.{length, length-append, length-replicate, get_or, take, drop, set, replicate, drop_of_length-le}
use lib.Seq.{set-append_seam, take_all}
use Rattle.gkr.specs.TranscriptLaws.{sampled_words}
use Rattle.log_replay.specs.Replayed.{plain_word, most_words, challenges_of}
use Rattle.log_replay.specs.Inner.{placed, next_place}
use Rattle.log_replay.proofs.Turns.{next}

-- ALL WORDS

-- what is left of a log, into words of which the first k stand
unfoldable pub poured : (log words : List ℕ) (k : ℕ) → List ℕ
poured [] words k = words
poured (w ∷ log) words k = poured log (placed w words k) (next_place w words k)

pub poured_next : (s words : List ℕ) (i k : ℕ) {words' : List ℕ} {k' : ℕ} → i < length s → words' ≡ placed (get_or s i 0) words k → k' ≡ next_place (get_or s i 0) words k
    → poured (drop (i + 1) s) words' k' ≡ poured (drop i s) words k
unfolding poured
poured_next s words i k h e f = ap₂ (poured (drop (i + 1) s)) e f ∙ sym (ap (λ l. poured l words k) (next s i h))

pub poured_out : (s words : List ℕ) (i k : ℕ) → length s ≤ i → poured (drop i s) words k ≡ words
unfolding poured
poured_out s words i k h = ap (λ l. poured l words k) (drop_of_length-le s h)

-- so many words of a list that goes on with zeros
filled : (ws : List ℕ) (n a b : ℕ) → n ≤ a → n ≤ b → take n (ws ++ replicate a 0) ≡ take n (ws ++ replicate b 0)
filled ws zero a b h l = refl
filled [] (suc n) zero b h l = absurd (omega arith)
filled [] (suc n) (suc a) zero h l = absurd (omega arith)
filled [] (suc n) (suc a) (suc b) h l = ap (λ r. 0 ∷ r) (filled [] n a b (le_of_suc-le-suc h) (le_of_suc-le-suc l))
filled (w ∷ ws) (suc n) a b h l = ap (λ r. w ∷ r) (filled ws n a b (omega arith) (omega arith))

pub poured_all : (log before : List ℕ) (m : ℕ) → poured log (before ++ replicate m 0) (length before) ≡ before ++ take m (map plain_word (sampled_words log) ++ replicate m 0)
unfolding poured sampled_words
poured_all [] before m = ap (λ l. before ++ l) (sym (take_all m (replicate m 0) (omega (arith, length-replicate {A = ℕ} m 0))))
poured_all (w ∷ log) before m = go (leb (2 ^ 31) w) m (poured_all log)
  where
    go : (b : Bool) (m : ℕ) → ((before : List ℕ) (m : ℕ) → poured log (before ++ replicate m 0) (length before) ≡ before ++ take m (map plain_word (sampled_words log) ++ replicate m 0))
        → (let words = before ++ replicate m 0 in let g = b && ltb (length before) (length words) in
        poured log (cond g (set words (length before) (plain_word w)) words) (cond g (length before + 1) (length before)))
        ≡ before ++ take m (map plain_word (cond b (w ∷ sampled_words log) (sampled_words log)) ++ replicate m 0)
    go false m rest = rest before m
    go true zero rest = rw (le-ltb (length before) (length (before ++ [])) (omega (arith, length-append before (replicate {A = ℕ} 0 0)))) (rest before zero)
    go true (suc m) rest =
        let v = plain_word w in
        let ws = map plain_word (sampled_words log) in
        let wide : length before < length (before ++ 0 ∷ replicate m 0) = omega (arith, length-append before (0 ∷ replicate m 0)) in
        let one : length before + 1 ≡ length (before ++ v ∷ []) = sym (length-append before (v ∷ [])) in
        rw (lt-ltb (length before) (length (before ++ 0 ∷ replicate m 0)) wide)
        (ap₂ (poured log) (set-append_seam before 0 (replicate m 0) v ∙ sym (append_assoc before (v ∷ []) (replicate m 0))) one
        ∙ rest (before ++ v ∷ []) m
        ∙ append_assoc before (v ∷ []) (take m (ws ++ replicate m 0))
        ∙ ap (λ l. before ++ v ∷ l) (filled ws m m (suc m) (omega arith) (omega arith)))

pub all_taken : (log : List ℕ) → poured log (replicate most_words 0) 0 ≡ challenges_of log
all_taken log = poured_all log [] most_words
