-- Runs of words: one turn of the copy from stored words, and of the writing of words.
-- Assumes nothing.
use Rattle.std.specs.Prelude.{◌≡◌, refl, List, [], ◌∷◌, ◌++◌, ℕ, ◌+◌, ◌*◌, ◌-◌, ◌<◌, ◌≤◌, length, get_or, drop}
use Rattle.std.proofs.Common.{sym, ◌∙◌, ap, add-one, append_assoc, drop-cons, drop-drop, length-drop, drop_of_length-le}
use Rattle.std.proofs.Math.ListN.{set}
use Rattle.std.proofs.Math.Seq.{set_at}
use Rattle.wire.specs.Bytes.{be4, bytes_of, word, words_from}
use Rattle.wire.proofs.ByteLaws.{bytes_length, words_add, words_length}

-- one word more is copied
pub copy_more : (bs old : List ℕ) (at i w : ℕ) → i < length old → w ≡ word (drop (at + 4 * i) bs)
    → set (words_from i (drop at bs) ++ drop i old) i w ≡ words_from (i + 1) (drop at bs) ++ drop (i + 1) old
unfolding words_from
copy_more bs old at i w h e =
    let ws = words_from i (drop at bs) in
    let d : drop i old ≡ get_or old i 0 ∷ drop (i + 1) old = drop-cons old i 0 h ∙ ap (λ k. get_or old i 0 ∷ drop k old) (sym (add-one i)) in
    let s : words_from (i + 1) (drop at bs) ≡ ws ++ (w ∷ []) =
    words_add i 1 (drop at bs) ∙ ap (λ l. ws ++ (word l ∷ [])) (drop-drop (4 * i) at bs) ∙ ap (λ x. ws ++ (x ∷ [])) (sym e) in
    ap (λ l. set (ws ++ l) i w) d
    ∙ set_at ws (get_or old i 0) (drop (i + 1) old) w i (words_length i (drop at bs))
    ∙ sym (append_assoc ws (w ∷ []) (drop (i + 1) old))
    ∙ ap (λ l. l ++ drop (i + 1) old) (sym s)

pub copy_none : (bs old : List ℕ) (at : ℕ) → old ≡ words_from 0 (drop at bs) ++ drop 0 old
unfolding words_from
copy_none bs old at = refl

-- words that are left to be written
pub words_turn : (ws : List ℕ) (i : ℕ) → i < length ws → bytes_of (drop i ws) ≡ be4 (get_or ws i 0) ++ bytes_of (drop (i + 1) ws)
unfolding bytes_of
words_turn ws i h = ap bytes_of (drop-cons ws i 0 h ∙ ap (λ k. get_or ws i 0 ∷ drop k ws) (sym (add-one i)))

pub words_over : (ws : List ℕ) (i : ℕ) → length ws ≤ i → bytes_of (drop i ws) ≡ []
unfolding bytes_of
words_over ws i h = ap bytes_of (drop_of_length-le ws h)

pub words_left : (ws : List ℕ) (i : ℕ) → length (bytes_of (drop i ws)) ≡ 4 * (length ws - i)
words_left ws i = bytes_length (drop i ws) ∙ ap (λ n. 4 * n) (length-drop i ws)
