-- The comparison, proved: the words of a point stand for it, and a sheet that both sides take is evaluated there.
-- Assumes nothing.
use Rattle.std.specs.Prelude.{◌≡◌, refl, Bool, true, false, not, cond, List, [], ◌∷◌, ◌++◌, ℕ, zero, suc, ◌+◌, ◌*◌, ◌^◌, ◌≤◌, length, drop}
use Rattle.std.proofs.Common.{sym, ◌∙◌, ap, ap₂, subst, arith, take_at, eq-eqb, le-ltb}
use Rattle.std.proofs.Math.Nat.{one-le-pow}
use Rattle.field.specs.Ext as E
use Rattle.field.specs.ExtRing.{ExtRing}
use Rattle.field.specs.Element.{enc, words, words_of_point}
use Rattle.field.specs.ElementLaws.{is_enc, canon_enc}
use Rattle.field.specs.Cells as Cells
use Rattle.field.specs.Cells.{cells}
use Rattle.field.specs.CellLaws.{cell_right, cell_words}
use Rattle.field.proofs.PointLaws.{point_length}
use Rattle.gkr.specs.Tree as Tree
use Rattle.refusal.specs.Fronts.{over}
use Rattle.refusal.specs.Tests.{passed, first_of}
use Rattle.refusal.specs.TestLaws.{all_passed}
use Rattle.refusal.specs.Limits as Limits
use Rattle.refusal.specs.Limits.{max_rows}
use Rattle.wire.specs.Words.{all_canonical}
use Rattle.wire.specs.WordLaws.{canonical_append, elem_canonical}
use Rattle.step.specs.Values.{IsFrac}
use Rattle.prover_tree.specs.Nodes.{node}
use Rattle.sizes.specs.Sizes.{row_count, rounds_of, is_size}
use Rattle.prover.specs.Proved as Prover
use Rattle.sizes.specs.SizeLaws.{rounds_taken, size_taken, whole, counted}
use Rattle.sizes.specs.LimitLaws.{rows_taken}
use Rattle.agreement.proofs.Agreeing.{demand_3}
use Rattle.evaluation.specs.Evaluated.{told, tests, evaluated}
use Rattle.evaluation.proofs.Answering.{told_some}
use Rattle.comparison.specs.Compared.{at_front, Comparison}

-- THE WORDS OF A POINT

shifted : (x : E.Ext) (l : List ℕ) (at k : ℕ) → cells (words x ++ l) (suc at) k ≡ cells l at k
shifted x l at zero = refl
shifted x l at (suc k) = ap₂ ◌∷◌ (ap (Cells.cell (words x ++ l)) (next at) ∙ cell_right (words x) l 1 at refl) (shifted x l (suc at) k)
  where
    next : (i : ℕ) → suc i ≡ 1 + i
    next i = omega arith

-- they stand for it
point_cells : (zs : List E.Ext) → cells (words_of_point zs) 0 (length zs) ≡ zs
unfolding words_of_point
point_cells [] = refl
point_cells (x ∷ xs) = ap₂ ◌∷◌ (cell_words x (words_of_point xs)) (shifted x (words_of_point xs) 0 (length xs) ∙ point_cells xs)

both : (a b : Bool) → a ≡ true → b ≡ true → cond a b false ≡ true
both a b h k = rw h k

-- and are canonical
point_canonical : (zs : List E.Ext) → all_canonical (words_of_point zs) ≡ true
unfolding words_of_point all_canonical
point_canonical [] = refl
point_canonical (x ∷ xs) = canonical_append (words x) (words_of_point xs) ∙ both _ _ (elem_canonical (enc x) (canon_enc x)) (point_canonical xs)

-- A SHEET THAT IS TAKEN

module _ (rows : List ℕ) (n : ℕ) (some : 1 ≤ n) (few : n ≤ Limits.max_rounds) (len : length rows ≡ 8 * 2 ^ n) (valid : all_canonical rows ≡ true) (zs : List E.Ext) (coordinates : length zs ≡ n) where
  abbrev ws : List ℕ
  ws = words_of_point zs

  long : length ws ≡ 4 * n
  long = point_length zs ∙ ap (λ k. 4 * k) coordinates

  value : Tree.value ExtRing (node rows) (cells ws 0 n) ≡ Tree.value ExtRing (node rows) zs
  value = ap (Tree.value ExtRing (node rows)) (ap (cells ws 0) (sym coordinates) ∙ point_cells zs)

  evaluates : evaluated rows ws ≡ told n (Tree.value ExtRing (node rows) zs)
  evaluates =
      let e : row_count rows ≡ 2 ^ n = counted rows n len in
      let k : rounds_of (row_count rows) ≡ n = ap rounds_of e ∙ rounds_taken n few in
      let z : row_count rows ≡ 0 → ⊥ = λ q. omega (arith, one-le-pow n 2 (omega arith), e, q) in
      let m : row_count rows ≤ max_rows = subst (λ k. k ≤ max_rows) (sym e) (rows_taken n few) in
      let v = Tree.value ExtRing (node rows) (cells ws 0 n) in
      let is : IsFrac (Prover.enc_frac v) v = record { p = is_enc v.p; q = is_enc v.q } in
      let p : first_of (tests rows ws) ≡ passed =
      all_passed (tests rows ws)
      (ap not (eq-eqb _ _ (whole rows n len)), (le-ltb _ _ m, (ap not (ap is_size e ∙ size_taken n few), (ap not (eq-eqb _ _ (long ∙ ap (λ j. 4 * j) (sym k))), (ap not valid, (ap not (point_canonical zs), tt)))))) in
      sym (told_some rows ws (sym k) p z is)
      ∙ ap (told n) value

  pub at_point : (buffer : List ℕ) → at_front rows n (over ws buffer) ≡ told n (Tree.value ExtRing (node rows) zs)
  at_point buffer = ap (evaluated rows) (take_at ws (drop (length ws) buffer) (4 * n) long) ∙ evaluates

-- THE THEOREM
pub comparison : Comparison
comparison c how n b v h d a z r s =
    let A = demand_3 c how n b v h d a z r s in
    let at = at_point c.rows n h.some h.few h.rows h.valid_rows A.point A.coordinates in
    record {
      numer = enc (Tree.value ExtRing (node c.rows) A.point).p;
      denom = enc (Tree.value ExtRing (node c.rows) A.point).q;
      claimed = A.accepted;
      at_verified = ap (at_front c.rows n) A.verified_point ∙ at v.point;
      at_proved = ap (at_front c.rows n) A.proved_point ∙ at b.point;
    }
