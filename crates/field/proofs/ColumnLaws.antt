-- Laws of columns: what stands in one, a loop that fills one, and that clean cells are a column.
-- Assumes nothing.
use Rattle.std.specs.Prelude.{◌≡◌, refl, List, ◌++◌, ℕ, zero, suc, ◌+◌, ◌*◌, ◌-◌, ◌<◌, ◌≤◌, length, get_or, take, drop}
use Rattle.std.proofs.Common.{sym, ◌∙◌, ap, append_assoc, append-nil, ⊎_elim, arith, eq-or-lt_of_le, le_of_suc-le-suc, add-suc, add-one, length-append, length-drop, take_at, take-add, take_all, drop-drop, get_or-append-add, get_or-drop}
use Rattle.std.proofs.lemmas.List.Edits.{sets, sets-eq}
use Rattle.std.proofs.Math.Seq.{drop-append-add}
use Rattle.field.specs.Ext as E
use Rattle.field.specs.Element.{words}
use Rattle.field.specs.Cells.{cell, Clean, Stored}
use Rattle.field.specs.Column.{flat}
use Rattle.field.specs.CellLaws.{clean_nil, clean_append, clean_words, cell_right, cell_words, cell_cong, words_cell}

pub length_flat : (f : ℕ → E.Ext) (n : ℕ) → length (flat f n) ≡ 4 * n
length_flat f zero = refl
length_flat f (suc n) = length-append (flat f n) (words (f n)) ∙ omega (arith, length_flat f n)

pub clean_flat : (f : ℕ → E.Ext) (n : ℕ) → Clean (flat f n)
clean_flat f zero = clean_nil
clean_flat f (suc n) = clean_append (flat f n) (words (f n)) (clean_flat f n) (clean_words (f n))

-- equal elements, equal columns
pub flat_cong : (f g : ℕ → E.Ext) (n : ℕ) → ((i : ℕ) → i < n → f i ≡ g i) → flat f n ≡ flat g n
flat_cong f g zero h = refl
flat_cong f g (suc n) h =
    let e : f n ≡ g n = h n (omega arith) in
    let r : flat f n ≡ flat g n = flat_cong f g n (λ i q. h i (omega arith)) in
    cc

-- a column in two parts
pub flat_append : (f : ℕ → E.Ext) (m n : ℕ) → flat f (m + n) ≡ flat f m ++ flat (λ i. f (m + i)) n
flat_append f m zero = let z : m + 0 ≡ m = omega arith in rw (z, append-nil)
flat_append f m (suc n) =
    rw add-suc (ap (λ (t : List ℕ). t ++ words (f (m + n))) (flat_append f m n) ∙ append_assoc (flat f m) (flat (λ i. f (m + i)) n) (words (f (m + n))))

-- ---- what stands in a list that begins with a column
cell_seam : (l m : List ℕ) (n : ℕ) → length l ≡ 4 * n → cell (l ++ m) n ≡ cell m 0
cell_seam l m n h = let z : n + 0 ≡ n = omega arith in ap (cell (l ++ m)) (sym z) ∙ cell_right l m n 0 h

pub flat_at : (f : ℕ → E.Ext) (n i : ℕ) (d : List ℕ) → i < n → cell (flat f n ++ d) i ≡ f i
flat_at f zero i d h = absurd (omega arith)
flat_at f (suc n) i d h =
    ap (λ (t : List ℕ). cell t i) (append_assoc (flat f n) (words (f n)) d)
    ∙ ⊎_elim
    (λ (q : i ≡ n). rw q (cell_seam (flat f n) (words (f n) ++ d) n (length_flat f n) ∙ cell_words (f n) d))
    (λ (q : i < n). flat_at f n i (words (f n) ++ d) q)
    (eq-or-lt_of_le (le_of_suc-le-suc h))

-- past the column the words are as before
pub kept_word : (f : ℕ → E.Ext) (n k : ℕ) (d : List ℕ) → 4 * n ≤ k → get_or (flat f n ++ drop (4 * n) d) k 0 ≡ get_or d k 0
kept_word f n k d h =
    let e : k ≡ length (flat f n) + (k - 4 * n) = omega (arith, length_flat f n) in
    let e' : 4 * n + (k - 4 * n) ≡ k = omega arith in
    ap (λ (t : ℕ). get_or (flat f n ++ drop (4 * n) d) t 0) e
    ∙ get_or-append-add (flat f n) (drop (4 * n) d) (k - 4 * n) 0 ∙ get_or-drop (4 * n) d (k - 4 * n) 0 ∙ ap (λ (t : ℕ). get_or d t 0) e'

pub kept_at : (f : ℕ → E.Ext) (n i : ℕ) (d : List ℕ) → n ≤ i → cell (flat f n ++ drop (4 * n) d) i ≡ cell d i
kept_at f n i d h = cell_cong (flat f n ++ drop (4 * n) d) d i i (λ j q. kept_word f n (4 * i + j) d (omega arith))

-- ---- a loop that fills a column: the next element
pub put_next : (f : ℕ → E.Ext) (n : ℕ) (d : List ℕ) → 4 * n + 4 ≤ length d
    → sets (flat f n ++ drop (4 * n) d) (4 * n) (words (f n)) ≡ flat f (n + 1) ++ drop (4 * (n + 1)) d
put_next f n d h =
    let l : List ℕ = flat f n ++ drop (4 * n) d in
    let len : length (flat f n) ≡ 4 * n = length_flat f n in
    let room : length l ≡ length d = length-append (flat f n) (drop (4 * n) d) ∙ omega (arith, length-drop (4 * n) d) in
    let e4 : 4 * suc n ≡ 4 * n + 4 = omega arith in
    sets-eq (words (f n)) l (4 * n) (omega arith)
    ∙ ap (λ (t : List ℕ). t ++ words (f n) ++ drop (4 * n + 4) l) (take_at (flat f n) (drop (4 * n) d) (4 * n) len)
    ∙ ap (λ (t : List ℕ). flat f n ++ words (f n) ++ t)
    (ap (λ (m : ℕ). drop (m + 4) l) (sym len) ∙ drop-append-add (flat f n) (drop (4 * n) d) 4 ∙ drop-drop 4 (4 * n) d)
    ∙ rw (add-one n, e4)

-- the same, from what `store` ensures
pub store_next : (f : ℕ → E.Ext) (n : ℕ) (d : List ℕ) {l m : List ℕ} → 4 * n + 4 ≤ length d → l ≡ flat f n ++ drop (4 * n) d → Stored l m n (f n)
    → m ≡ flat f (n + 1) ++ drop (4 * (n + 1)) d
store_next f n d h e s = s.exact ∙ ap (λ (t : List ℕ). sets t (4 * n) (words (f n))) e ∙ put_next f n d h

-- ---- clean cells are a column
pub cells_flat : (f : ℕ → E.Ext) (n : ℕ) {l : List ℕ} → Clean l → 4 * n ≤ length l → ((i : ℕ) → i < n → cell l i ≡ f i) → take (4 * n) l ≡ flat f n
cells_flat f zero c h e = refl
cells_flat f (suc n) {l} c h e =
    let e4 : 4 * suc n ≡ 4 * n + 4 = omega arith in
    let r : take (4 * n) l ≡ flat f n = cells_flat f n c (omega arith) (λ i q. e i (omega arith)) in
    let w : take 4 (drop (4 * n) l) ≡ words (f n) = words_cell l n c (omega arith) ∙ ap words (e n (omega arith)) in
    ap (λ (k : ℕ). take k l) e4 ∙ take-add (4 * n) 4 l ∙ cc

-- a clean list of whole cells is the column of its cells
pub flat_cells : (n : ℕ) {l : List ℕ} → Clean l → length l ≡ 4 * n → l ≡ flat (cell l) n
flat_cells n {l} c h = sym (take_all (4 * n) l (omega arith)) ∙ cells_flat (cell l) n c (omega arith) (λ i q. refl)

-- equal cells, equal lists
pub cells_equal : (n : ℕ) {l m : List ℕ} → Clean l → Clean m → length l ≡ 4 * n → length m ≡ 4 * n → ((i : ℕ) → i < n → cell l i ≡ cell m i) → l ≡ m
cells_equal n {l} {m} c d h k e = flat_cells n c h ∙ flat_cong (cell l) (cell m) n e ∙ sym (flat_cells n d k)
