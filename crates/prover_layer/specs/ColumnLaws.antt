-- No second workspace fits claims that are weighed: they say what every cell holds. A lent slice keeps its length.
-- Assumes nothing.
use Rattle.std.specs.Prelude.{◌≡◌, List, ℕ, zero, suc, ◌+◌, ◌-◌, ◌*◌, ◌/◌, ◌%◌, ◌<◌, ◌≤◌, length}
use Rattle.std.proofs.Common.{sym, ◌∙◌, ap, arith}
use Rattle.std.proofs.Math.Nat.{div-add-mod}
use Rattle.field.specs.Ext as E
use Rattle.field.specs.Cells.{cell}
use Rattle.field.specs.CellLaws.{cells_unique}
use Rattle.multilinear.specs.RoundSum.{Claims}
use Rattle.prover_tree.specs.NodeLaws.{below_or_not}
use Rattle.prover_layer.specs.Columns.{claims, Weighed}

-- the cells of entry y
claims_cell : (l m : List ℕ) (b y r : ℕ) → r < 4 → claims l b y ≡ claims m b y → cell l (2 * b + 4 * y + r) ≡ cell m (2 * b + 4 * y + r)
claims_cell l m b y zero h e = let q : 2 * b + 4 * y + 0 ≡ 2 * (b + 2 * y) = omega arith in ap (cell l) q ∙ ap (λ (c : Claims E.Ext). c.p0) e ∙ ap (cell m) (sym q)
claims_cell l m b y (suc zero) h e = let q : 2 * b + 4 * y + 1 ≡ 2 * (b + 2 * y) + 1 = omega arith in ap (cell l) q ∙ ap (λ (c : Claims E.Ext). c.q0) e ∙ ap (cell m) (sym q)
claims_cell l m b y (suc (suc zero)) h e = let q : 2 * b + 4 * y + 2 ≡ 2 * (b + (2 * y + 1)) = omega arith in ap (cell l) q ∙ ap (λ (c : Claims E.Ext). c.p1) e ∙ ap (cell m) (sym q)
claims_cell l m b y (suc (suc (suc zero))) h e = let q : 2 * b + 4 * y + 3 ≡ 2 * (b + (2 * y + 1)) + 1 = omega arith in ap (cell l) q ∙ ap (λ (c : Claims E.Ext). c.q1) e ∙ ap (cell m) (sym q)
claims_cell l m b y (suc (suc (suc (suc r)))) h e = absurd (omega arith)

-- the cells of the first n entries
pub in_nodes : (l m : List ℕ) (b n : ℕ) → ((y : ℕ) → y < n → claims l b y ≡ claims m b y) → (j : ℕ) → 2 * b ≤ j → j < 2 * b + 4 * n → cell l j ≡ cell m j
in_nodes l m b n h j u v =
    let y : ℕ = (j - 2 * b) / 4 in
    let r : ℕ = (j - 2 * b) % 4 in
    let d : 4 * y + r ≡ j - 2 * b = div-add-mod (j - 2 * b) 4 in
    let q : 2 * b + 4 * y + r ≡ j = omega arith in
    let w : y < n = omega arith in
    ap (cell l) (sym q) ∙ claims_cell l m b y r (omega arith) (h y w) ∙ ap (cell m) q

pub weighed_unique : {ws l m : List ℕ} {b n : ℕ} {lambda : E.Ext} → length l ≡ length m → Weighed ws l b n lambda → Weighed ws m b n lambda → l ≡ m
weighed_unique {ws} {l} {m} {b} {n} e h h' =
    cells_unique l m h.clean h'.clean e
    (λ j. below_or_not j (2 * b) (λ u. h.below j u ∙ sym (h'.below j u))
    (λ u. below_or_not j (2 * b + 4 * n) (in_nodes l m b n (λ y w. h.nodes y w ∙ sym (h'.nodes y w)) j u) (λ v. h.above j v ∙ sym (h'.above j v))))
