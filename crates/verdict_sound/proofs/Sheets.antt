-- A sheet whose evaluation at the point written gives both claims: the claims are the values of its rows.
-- Assumes nothing.
use Rattle.std.specs.Prelude.{Result, Ok, Err}
use mathlib.Core.Path.{◌≡◌, refl, sym, ◌∙◌, ap, subst}
use mathlib.Core.Bool.{Bool, true, false, cond}
use mathlib.Core.List.{List}
use mathlib.Core.Logic.{◌⊎◌}
use Prim.Native.Nat.{ℕ, ◌*◌, ◌^◌, ◌≤◌}
use native.Mathlib.Omega.{arith}
use borrow.Author.Tests.{eqb-false, not-false}
use lib.Dec.{eqb}
use lib.ListN.{take}
use Rattle.field.specs.Ext as E
use Rattle.field.specs.ExtRing.{ExtRing}
use Rattle.field.specs.Element.{enc}
use Rattle.field.specs.Cells.{cells}
use Rattle.field.specs.CellLaws.{cell_take}
use Rattle.field.proofs.PointLaws.{cells_kept}
use Rattle.field.specs.declared.Ext.{Ext}
use Rattle.gkr.specs.Run.{Frac}
use Rattle.gkr.specs.Sizes.{point_words}
use Rattle.gkr.specs.Tree as Tree
use Rattle.domain.specs.Rows.{ZeroRow}
use Rattle.soundness.specs.Fractions.{SumsToZero}
use Rattle.refusal.specs.declared.Refusal.{Refusal}
use Rattle.refusal.specs.Tests.{Tested, passed, refused, first_of}
use Rattle.refusal.specs.TestLaws.{passed_all}
use Rattle.sizes.specs.Sizes.{row_count, rounds_of, is_size}
use Rattle.sizes.specs.SizeLaws.{some_size}
use Rattle.prover_tree.specs.Nodes.{node}
use Rattle.verifier.specs.Verified.{Asked, Lent, verified}
use Rattle.evaluation.specs.declared.Values.{Values}
use Rattle.evaluation.specs.Evaluated.{told, tests, valued, evaluated}
use Rattle.verdict_sound.specs.Says.{Unlucky, BadInLog, Checked, SheetMatches, SheetSound, SheetLive}
use Rattle.verdict_sound.proofs.Saying.{accepted_sound, accepted_live, drawn_sound}

-- WHAT AN EVALUATION ANSWERS

abbrev pub done : ℕ → Ext → Ext → Result Values Refusal
done n p q = Ok (record { rounds = n; numer = p; denom = q })

pub not_done : (n : ℕ) (p q : Ext) (r : Refusal) → Err r ≡ done n p q → ⊥
not_done n p q r h = let z : ◌≡◌ {A = ℕ} 0 1 = cc in omega arith

same_values : {a b : Values} → ◌≡◌ {A = Result Values Refusal} (Ok a) (Ok b) → a ≡ b
same_values h = cc

pub rounds_told : (k n : ℕ) (v : Frac E.Ext) (p q : Ext) → told k v ≡ done n p q → k ≡ n
rounds_told k n v p q h = ap (λ (x : Values). x.rounds) (same_values h)

values_told : (k n : ℕ) (v : Frac E.Ext) (p q : Ext) → told k v ≡ done n p q → (p ≡ enc v.p) × (q ≡ enc v.q)
values_told k n v p q h = let e = sym (same_values h) in (ap (λ (x : Values). x.numer) e, ap (λ (x : Values). x.denom) e)

-- done with some rounds: so many rows, and their values at the point
record Valued (rows point : List ℕ) (n : ℕ) (p q : Ext) : Type 0 where
  size : row_count rows ≡ 2 ^ n
  numer : p ≡ enc (Tree.value ExtRing (node rows) (cells point 0 n)).p
  denom : q ≡ enc (Tree.value ExtRing (node rows) (cells point 0 n)).q

module _ (rows point : List ℕ) (n : ℕ) (p q : Ext) (some : ¬ (n ≡ 0)) where
  abbrev k : ℕ
  k = rounds_of (row_count rows)

  by_rows : (b : Bool) → eqb (row_count rows) 0 ≡ b → is_size (row_count rows) ≡ true
      → cond b (told 0 (record { p = E.nil; q = E.one })) (told k (Tree.value ExtRing (node rows) (cells point 0 k))) ≡ done n p q → Valued rows point n p q
  by_rows true z s e = absurd (some (sym (rounds_told 0 n (record { p = E.nil; q = E.one }) p q e)))
  by_rows false z s e =
      let c = rounds_told k n (Tree.value ExtRing (node rows) (cells point 0 k)) p q e in
      let v = values_told k n (Tree.value ExtRing (node rows) (cells point 0 k)) p q e in
      subst (λ j. Valued rows point j p q) c (record { size = some_size (row_count rows) s (eqb-false _ _ z); numer = v.0; denom = v.1 })

  by_tests : (w : Tested) → first_of (tests rows point) ≡ w → valued rows point w ≡ done n p q → Valued rows point n p q
  by_tests (refused r) t e = absurd (not_done n p q r e)
  by_tests passed t e = by_rows (eqb (row_count rows) 0) refl (not-false _ (passed_all (tests rows point) t).1.1.0) e

  evaluates : evaluated rows point ≡ done n p q → Valued rows point n p q
  unfolding evaluated
  evaluates e = by_tests (first_of (tests rows point)) refl e

none : (n : ℕ) → n ≡ 0 → 1 ≤ n → ⊥
none n e h = omega arith

-- the coordinates at the front of a buffer
front_cells : (ws : List ℕ) (n : ℕ) → cells (take (4 * n) ws) 0 n ≡ cells ws 0 n
front_cells ws n = cells_kept ws (take (4 * n) ws) 0 n (λ i l h. cell_take (4 * n) ws i (omega arith))

pub sheet_matches : SheetMatches
sheet_matches a b rows c =
    let pt = (verified a b).buffers.point in
    let v = evaluates rows (take (point_words a.rounds) pt) a.rounds c.numer c.denom (λ e. none a.rounds e c.some) c.valued in
    let at = ap (Tree.value ExtRing (node rows)) (front_cells pt a.rounds) in
    (v.size, (c.some, c.accepted ∙ (λ i. Ok (record { numer = (v.numer ∙ ap (λ x. enc x.p) at) i; denom = (v.denom ∙ ap (λ x. enc x.q) at) i }))))

-- WHAT IT SAYS OF THE SHEET

pub sheet_sound : SheetSound
sheet_sound a b rows c = accepted_sound a b (node rows) (sheet_matches a b rows c).1

pub sheet_live : SheetLive
sheet_live a b rows l c =
    let m = sheet_matches a b rows c in
    subst (λ k. ((¬ ZeroRow ExtRing (node rows) k) × SumsToZero ExtRing (node rows) k) ⊎ Unlucky a (node rows)) (sym m.0) (accepted_live a b (node rows) l m.1)

-- and whatever the source
pub sheet_drawn : (a : Asked) (b : Lent) (rows : List ℕ) → a.modes.live ≡ true → Checked a b rows
    → ((¬ ZeroRow ExtRing (node rows) (row_count rows)) × SumsToZero ExtRing (node rows) (row_count rows)) ⊎ BadInLog drawn_sound.table a b (node rows)
sheet_drawn a b rows l c =
    let m = sheet_matches a b rows c in
    subst (λ k. ((¬ ZeroRow ExtRing (node rows) k) × SumsToZero ExtRing (node rows) k) ⊎ BadInLog drawn_sound.table a b (node rows)) (sym m.0) (drawn_sound.live a b (node rows) l m.1)
