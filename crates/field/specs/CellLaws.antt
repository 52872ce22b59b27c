-- Laws of cells: what is read from parts of a list and after a store, and which lists are clean.
-- Assumes nothing.
use Rattle.std.specs.Prelude.{◌≡◌, refl, List, [], ◌∷◌, ◌++◌, ℕ, zero, suc, ◌+◌, ◌*◌, ◌/◌, ◌%◌, ◌<◌, ◌≤◌, length, get_or, set, take, drop, replicate}
use Rattle.std.proofs.Common.{sym, ◌∙◌, ap, arith, length-drop, get_or-take, get_or-drop, get_or-append-add, ext_get_or}
use Rattle.std.proofs.Math.Nat.{div-add-mod}
use Rattle.std.proofs.Math.ListN.{get_or-append}
use Rattle.std.proofs.lemmas.List.Edits.{sets}
use Rattle.std.proofs.Math.Seq.{length-sets}
use Rattle.field.specs.Base as B
use Rattle.field.specs.Base.{P, of}
use Rattle.field.specs.BaseRing.{val_lt}
use Rattle.field.specs.Ext as E
use Rattle.field.specs.Element.{words}
use Rattle.field.specs.ElementLaws.{word_of, word_unique, dec_enc}
use Rattle.field.specs.Cells.{cell, Clean, Stored}

-- ---- clean lists
pub clean_nil : Clean []
clean_nil = record { below = λ k. omega arith }

pub clean_cons : (a : ℕ) {l : List ℕ} → a < P → Clean l → Clean (a ∷ l)
clean_cons a {l} h c = record { below = go }
  where
    go : (k : ℕ) → get_or (a ∷ l) k 0 < P
    go zero = h
    go (suc k) = c.below k

clean_tail : (a : ℕ) (l : List ℕ) → Clean (a ∷ l) → Clean l
clean_tail a l c = record { below = λ k. c.below (suc k) }

pub clean_take : (n : ℕ) (l : List ℕ) → Clean l → Clean (take n l)
clean_take zero l c = clean_nil
clean_take (suc n) [] c = c
clean_take (suc n) (a ∷ l) c = clean_cons a (c.below 0) (clean_take n l (clean_tail a l c))

pub clean_drop : (n : ℕ) (l : List ℕ) → Clean l → Clean (drop n l)
clean_drop zero l c = c
clean_drop (suc n) [] c = c
clean_drop (suc n) (a ∷ l) c = clean_drop n l (clean_tail a l c)

pub clean_append : (l m : List ℕ) → Clean l → Clean m → Clean (l ++ m)
clean_append [] m c d = d
clean_append (a ∷ l) m c d = clean_cons a (c.below 0) (clean_append l m (clean_tail a l c) d)

pub clean_set : (l : List ℕ) (i a : ℕ) → Clean l → a < P → Clean (set l i a)
clean_set [] i a c h = c
clean_set (x ∷ l) zero a c h = clean_cons a h (clean_tail x l c)
clean_set (x ∷ l) (suc i) a c h = clean_cons x (c.below 0) (clean_set l i a (clean_tail x l c) h)

pub clean_sets : (l : List ℕ) (i : ℕ) (vs : List ℕ) → Clean l → Clean vs → Clean (sets l i vs)
clean_sets l i [] c d = c
clean_sets l i (a ∷ vs) c d = clean_sets (set l i a) (suc i) vs (clean_set l i a c (d.below 0)) (clean_tail a vs d)

pub clean_zeros : (n : ℕ) → Clean (replicate n 0)
clean_zeros zero = clean_nil
clean_zeros (suc n) = clean_cons 0 (omega arith) (clean_zeros n)

pub clean_words : (x : E.Ext) → Clean (words x)
clean_words x = clean_cons x.c0.val (val_lt x.c0) (clean_cons x.c1.val (val_lt x.c1) (clean_cons x.c2.val (val_lt x.c2) (clean_cons x.c3.val (val_lt x.c3) clean_nil)))

-- ---- cells of parts
-- two lists whose words agree in two places have the same cells there
pub cell_cong : (l m : List ℕ) (i j : ℕ) → ((k : ℕ) → k < 4 → get_or l (4 * i + k) 0 ≡ get_or m (4 * j + k) 0) → cell l i ≡ cell m j
unfolding cell
cell_cong l m i j h =
    let i0 : 4 * i ≡ 4 * i + 0 = omega arith in
    let j0 : 4 * j ≡ 4 * j + 0 = omega arith in
    let e0 : get_or l (4 * i) 0 ≡ get_or m (4 * j) 0 = ap (λ (k : ℕ). get_or l k 0) i0 ∙ h 0 (omega arith) ∙ ap (λ (k : ℕ). get_or m k 0) (sym j0) in
    cc (e0, h 1 (omega arith), h 2 (omega arith), h 3 (omega arith))

pub cell_drop : (l : List ℕ) (k i : ℕ) → cell (drop (4 * k) l) i ≡ cell l (k + i)
cell_drop l k i = cell_cong (drop (4 * k) l) l i (k + i) at
  where
    at : (j : ℕ) → j < 4 → get_or (drop (4 * k) l) (4 * i + j) 0 ≡ get_or l (4 * (k + i) + j) 0
    at j h = let e : 4 * k + (4 * i + j) ≡ 4 * (k + i) + j = omega arith in get_or-drop (4 * k) l (4 * i + j) 0 ∙ ap (λ (n : ℕ). get_or l n 0) e

pub cell_take : (n : ℕ) (l : List ℕ) (i : ℕ) → 4 * i + 4 ≤ n → cell (take n l) i ≡ cell l i
cell_take n l i h = cell_cong (take n l) l i i (λ j q. get_or-take n l (4 * i + j) 0 (omega arith))

pub cell_left : (l m : List ℕ) (i : ℕ) → 4 * i + 4 ≤ length l → cell (l ++ m) i ≡ cell l i
cell_left l m i h = cell_cong (l ++ m) l i i (λ j q. get_or-append l m 0 (4 * i + j) (omega arith))

pub cell_right : (l m : List ℕ) (n i : ℕ) → length l ≡ 4 * n → cell (l ++ m) (n + i) ≡ cell m i
cell_right l m n i h = cell_cong (l ++ m) m (n + i) i at
  where
    at : (j : ℕ) → j < 4 → get_or (l ++ m) (4 * (n + i) + j) 0 ≡ get_or m (4 * i + j) 0
    at j q = let e : 4 * (n + i) + j ≡ length l + (4 * i + j) = omega arith in ap (λ (k : ℕ). get_or (l ++ m) k 0) e ∙ get_or-append-add l m (4 * i + j) 0

pub cell_words : (x : E.Ext) (l : List ℕ) → cell (words x ++ l) 0 ≡ x
unfolding cell
cell_words x l = dec_enc x

zeros_at : (n k : ℕ) → ◌≡◌ {A = ℕ} (get_or (replicate n 0) k 0) 0
zeros_at zero k = refl
zeros_at (suc n) zero = refl
zeros_at (suc n) (suc k) = zeros_at n k

pub cell_zeros : (n i : ℕ) → cell (replicate n 0) i ≡ E.nil
unfolding cell E.nil E.emb E.ext B.nil
cell_zeros n i = cc (zeros_at n (4 * i), zeros_at n (4 * i + 1), zeros_at n (4 * i + 2), zeros_at n (4 * i + 3))

-- ---- the words of a cell
front : (l : List ℕ) → 4 ≤ length l → take 4 l ≡ get_or l 0 0 ∷ get_or l 1 0 ∷ get_or l 2 0 ∷ get_or l 3 0 ∷ []
front [] h = absurd (omega arith)
front (a ∷ []) h = absurd (omega arith)
front (a ∷ b ∷ []) h = absurd (omega arith)
front (a ∷ b ∷ c ∷ []) h = absurd (omega arith)
front (a ∷ b ∷ c ∷ d ∷ l) h = refl

pub words_cell : (l : List ℕ) (i : ℕ) → Clean l → 4 * i + 4 ≤ length l → take 4 (drop (4 * i) l) ≡ words (cell l i)
unfolding cell E.ext
words_cell l i c h =
    let d : List ℕ = drop (4 * i) l in
    let i0 : 4 * i + 0 ≡ 4 * i = omega arith in
    let w : (k : ℕ) → (of (get_or l k 0)).val ≡ get_or l k 0 = λ k. word_of (get_or l k 0) (c.below k) in
    let g : (k : ℕ) → get_or d k 0 ≡ get_or l (4 * i + k) 0 = λ k. get_or-drop (4 * i) l k 0 in
    front d (omega (arith, length-drop (4 * i) l))
    ∙ cc (g 0, i0, g 1, g 2, g 3, w (4 * i), w (4 * i + 1), w (4 * i + 2), w (4 * i + 3))

-- ---- after a store
pub length_stored : {l m : List ℕ} {i : ℕ} {x : E.Ext} → Stored l m i x → length m ≡ length l
length_stored {l} {m} {i} {x} h = ap length h.exact ∙ length-sets l (4 * i) (words x)

-- no second list fits
pub stored_unique : {l m n : List ℕ} {i : ℕ} {x : E.Ext} → Stored l m i x → Stored l n i x → m ≡ n
stored_unique h k = h.exact ∙ sym k.exact

-- canonical words are fixed by the cells, and their number
pub cells_unique : (m n : List ℕ) → Clean m → Clean n → length m ≡ length n → ((j : ℕ) → cell m j ≡ cell n j) → m ≡ n
unfolding cell E.ext
cells_unique m n c d e h = ext_get_or 0 m n e (λ k _. sym (ap (λ (i : ℕ). get_or m i 0) (div-add-mod k 4)) ∙ at (k / 4) (k % 4) (omega arith) ∙ ap (λ (i : ℕ). get_or n i 0) (div-add-mod k 4))
  where
    word : (i : ℕ) → of (get_or m i 0) ≡ of (get_or n i 0) → get_or m i 0 ≡ get_or n i 0
    word i q = word_unique (c.below i, q) (d.below i, refl)

    at : (j r : ℕ) → r < 4 → get_or m (4 * j + r) 0 ≡ get_or n (4 * j + r) 0
    at j zero q =
        let z : 4 * j + 0 ≡ 4 * j = omega arith in
        ap (λ (i : ℕ). get_or m i 0) z ∙ word (4 * j) (ap (λ (x : E.Ext). x.c0) (h j)) ∙ ap (λ (i : ℕ). get_or n i 0) (sym z)
    at j (suc zero) q = word (4 * j + 1) (ap (λ (x : E.Ext). x.c1) (h j))
    at j (suc (suc zero)) q = word (4 * j + 2) (ap (λ (x : E.Ext). x.c2) (h j))
    at j (suc (suc (suc zero))) q = word (4 * j + 3) (ap (λ (x : E.Ext). x.c3) (h j))
    at j (suc (suc (suc (suc r)))) q = absurd (omega arith)
