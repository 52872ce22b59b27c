-- Points in cells: one more coordinate, coordinates kept, and the old point as it is overwritten.
-- Assumes nothing.
use mathlib.Core.Path.{◌≡◌, refl, sym, ◌∙◌, ap, ap₂}
use mathlib.Core.List.{List, [], ◌∷◌, ◌++◌}
use Prim.Native.Nat.{ℕ, zero, suc, ◌+◌}
use native.Mathlib.Numerals.{add-one}
use native.Mathlib.Omega.{arith}
use Rattle.field.specs.Ext as E
use Rattle.field.specs.Cells.{cell, Stored, cells}
use Rattle.field.proofs.PointLaws.{cells_snoc, cells_kept}
use Rattle.verifier_round.specs.Points.{ahead}

-- the whole old point, as it stands before the first sub-round
pub ahead_all : (ws : List ℕ) (k : ℕ) → ahead (cell ws 0) ws 0 k ≡ cells ws 0 k
ahead_all ws zero = refl
ahead_all ws (suc k) = refl

-- what is left of it after one more, whose cell is overwritten
pub ahead_next : (ws ws' : List ℕ) (i k : ℕ) (x r : E.Ext) → x ≡ cell ws (i + 1) → Stored ws ws' (i + 1) r → cells ws (suc i) k ≡ ahead x ws' (i + 1) k
ahead_next ws ws' i zero x r e h = refl
ahead_next ws ws' i (suc k) x r e h =
    let q : suc (suc i) ≡ suc (i + 1) = omega arith in
    ap₂ (λ y t. y ∷ t) (ap (cell ws) (sym (add-one i)) ∙ sym e)
    (ap (λ n. cells ws n k) q ∙ sym (cells_kept ws ws' (suc (i + 1)) k (λ j a b. h.rest j (λ c. omega arith))))

-- one more coordinate of the new point, which begins in cell 1
pub grown : (ws ws' : List ℕ) (j : ℕ) (r : E.Ext) → Stored ws ws' (j + 1) r → cells ws' 1 (j + 1) ≡ cells ws 1 j ++ (r ∷ [])
grown ws ws' j r h =
    let e : 1 + j ≡ j + 1 = omega arith in
    ap (cells ws' 1) (add-one j) ∙ cells_snoc ws' 1 j
    ∙ ap₂ (λ a x. a ++ (x ∷ [])) (cells_kept ws ws' 1 j (λ i a b. h.rest i (λ q. omega arith))) (ap (cell ws') e ∙ h.here)

-- cell 0 put before the coordinates from cell 1 on
pub headed : (ws ws' : List ℕ) (k : ℕ) (r : E.Ext) → Stored ws ws' 0 r → cells ws' 0 (k + 1) ≡ r ∷ cells ws 1 k
headed ws ws' k r h = ap (cells ws' 0) (add-one k) ∙ ap₂ (λ x t. x ∷ t) h.here (cells_kept ws ws' 1 k (λ j a b. h.rest j (λ q. omega arith)))
