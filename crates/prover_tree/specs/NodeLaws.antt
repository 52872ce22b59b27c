-- No second workspace fits: a pass that says what every cell holds leaves one list of canonical words. A lent slice keeps its length.
-- Assumes nothing.
use Rattle.std.specs.Prelude.{◌≡◌, refl, Bool, true, false, List, ℕ, ◌+◌, ◌-◌, ◌*◌, ◌^◌, ◌<◌, ◌≤◌, ltb, eqb, length}
use Rattle.std.proofs.Common.{sym, ◌∙◌, ap, arith, ltb-true, ltb-false, eqb-true}
use Rattle.std.proofs.lemmas.Bool.{eqb-false}
use Rattle.field.specs.Ext as E
use Rattle.field.specs.Cells.{cell}
use Rattle.field.specs.CellLaws.{cells_unique}
use Rattle.gkr.specs.Run.{Frac}
use Rattle.prover_tree.specs.Nodes.{node, StoredNode, Filled, Built}

-- below a bound or not, and one number or not
pub below_or_not : {A : Type 0} (a b : ℕ) → (a < b → A) → (b ≤ a → A) → A
below_or_not {A} a b f g = go (ltb a b) refl
  where
    go : (t : Bool) → ltb a b ≡ t → A
    go true e = f (ltb-true a b e)
    go false e = g (ltb-false a b e)

pub equal_or_not : {A : Type 0} (a b : ℕ) → (a ≡ b → A) → ((a ≡ b → ⊥) → A) → A
equal_or_not {A} a b f g = go (eqb a b) refl
  where
    go : (t : Bool) → eqb a b ≡ t → A
    go true e = f (eqb-true a b e)
    go false e = g (eqb-false a b e)

pub stored_node_unique : {ws l m : List ℕ} {k : ℕ} {x : Frac E.Ext} → length l ≡ length m → StoredNode ws l k x → StoredNode ws m k x → l ≡ m
stored_node_unique {ws} {l} {m} {k} e h h' = cells_unique l m h.clean h'.clean e at
  where
    both : node l k ≡ node m k
    both = h.here ∙ sym h'.here

    at : (j : ℕ) → cell l j ≡ cell m j
    at j =
        equal_or_not j (2 * k) (λ q. ap (cell l) q ∙ ap (λ (f : Frac E.Ext). f.p) both ∙ ap (cell m) (sym q))
        (λ u. equal_or_not j (2 * k + 1) (λ q. ap (cell l) q ∙ ap (λ (f : Frac E.Ext). f.q) both ∙ ap (cell m) (sym q))
        (λ v. h.rest j u v ∙ sym (h'.rest j u v)))

pub filled_unique : {ws l m : List ℕ} {at n : ℕ} {t : ℕ → E.Ext} → length l ≡ length m → Filled ws l at n t → Filled ws m at n t → l ≡ m
filled_unique {ws} {l} {m} {at} {n} e h h' = cells_unique l m h.clean h'.clean e here
  where
    in_area : (j : ℕ) → at ≤ j → j < at + n → cell l j ≡ cell m j
    in_area j u v =
        let q : at + (j - at) ≡ j = omega arith in
        let w : j - at < n = omega arith in
        ap (cell l) (sym q) ∙ h.filled (j - at) w ∙ sym (h'.filled (j - at) w) ∙ ap (cell m) q

    here : (j : ℕ) → cell l j ≡ cell m j
    here j =
        below_or_not j at (λ u. h.below j u ∙ sym (h'.below j u))
        (λ u. below_or_not j (at + n) (in_area j u) (λ v. h.above j v ∙ sym (h'.above j v)))

-- of the tree every node, from the root to the rows; the two cells before the root are not said
pub built_unique : {rows ws l m : List ℕ} {size : ℕ} (n d i : ℕ) → size ≡ 2 ^ n → d ≤ n → i < 2 ^ d → Built rows ws l size → Built rows ws m size → node l (2 ^ d + i) ≡ node m (2 ^ d + i)
built_unique n d i e u v h h' = let q : d + (n - d) ≡ n = omega arith in h.nodes n (n - d) d i e q v ∙ sym (h'.nodes n (n - d) d i e q v)
