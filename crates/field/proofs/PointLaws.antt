-- Cells as a point: their number, one more at the end, cells that are kept, and the words of a point.
-- Assumes nothing.
use Rattle.std.specs.Prelude.{◌≡◌, refl, List, [], ◌∷◌, ◌++◌, ℕ, zero, suc, ◌+◌, ◌*◌, ◌<◌, ◌≤◌, length, take, drop}
use Rattle.std.proofs.Common.{sym, ◌∙◌, ap, ap₂, add-zero, arith, length-append, take-add, drop-drop}
use Rattle.field.specs.Ext as E
use Rattle.field.specs.Element.{words, words_of_point}
use Rattle.field.specs.Cells.{cell, cells, Clean}
use Rattle.field.specs.CellLaws.{words_cell}

pub cells_length : (ws : List ℕ) (at k : ℕ) → length (cells ws at k) ≡ k
cells_length ws at zero = refl
cells_length ws at (suc k) = ap suc (cells_length ws (suc at) k)

pub cells_snoc : (ws : List ℕ) (at n : ℕ) → cells ws at (suc n) ≡ cells ws at n ++ (cell ws (at + n) ∷ [])
cells_snoc ws at zero = ap (λ k. cell ws k ∷ []) (sym (add-zero at))
cells_snoc ws at (suc n) =
    let e : suc at + n ≡ at + suc n = omega arith in
    ap (λ t. cell ws at ∷ t) (cells_snoc ws (suc at) n ∙ ap (λ k. cells ws (suc at) n ++ (cell ws k ∷ [])) e)

-- a point that begins in cell 0
pub point_snoc : (ws : List ℕ) (n : ℕ) → cells ws 0 (suc n) ≡ cells ws 0 n ++ (cell ws n ∷ [])
point_snoc ws n = let z : 0 + n ≡ n = omega arith in cells_snoc ws 0 n ∙ ap (λ k. cells ws 0 n ++ (cell ws k ∷ [])) z

pub cells_kept : (ws ws' : List ℕ) (at n : ℕ) → ((i : ℕ) → at ≤ i → i < at + n → cell ws' i ≡ cell ws i) → cells ws' at n ≡ cells ws at n
cells_kept ws ws' at zero h = refl
cells_kept ws ws' at (suc n) h = ap₂ (λ x t. x ∷ t) (h at (omega arith) (omega arith)) (cells_kept ws ws' (suc at) n (λ i a b. h i (omega arith) (omega arith)))

pub point_length : (xs : List E.Ext) → length (words_of_point xs) ≡ 4 * length xs
unfolding words_of_point
point_length [] = refl
point_length (x ∷ xs) = length-append (words x) (words_of_point xs) ∙ omega (arith, point_length xs)

-- a clean buffer's words are those of its coordinates
pub point_is : (ws : List ℕ) (at n : ℕ) → Clean ws → 4 * (at + n) ≤ length ws → words_of_point (cells ws at n) ≡ take (4 * n) (drop (4 * at) ws)
unfolding words_of_point
point_is ws at zero c h = refl
point_is ws at (suc n) c h =
    let e : 4 * suc n ≡ 4 + 4 * n = omega arith in
    let f : 4 * at + 4 ≡ 4 * suc at = omega arith in
    ap₂ ◌++◌ (sym (words_cell ws at c (omega arith))) (point_is ws (suc at) n c (omega arith) ∙ ap (λ k. take (4 * n) (drop k ws)) (sym f) ∙ ap (take (4 * n)) (sym (drop-drop 4 (4 * at) ws)))
    ∙ sym (take-add 4 (4 * n) (drop (4 * at) ws)) ∙ ap (λ k. take k (drop (4 * at) ws)) (sym e)
