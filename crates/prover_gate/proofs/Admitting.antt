-- The search of the lowest row over zero, from one row to the next; and what canonical words are to it.
-- Assumes nothing.
use Rattle.std.specs.Prelude.{◌≡◌, Bool, true, false, List, ℕ, suc, ◌+◌, ◌-◌, ◌<◌, Some, None}
use Rattle.std.proofs.Common.{sym, ◌∙◌, ap, add-one, arith, lt-ltb, le-ltb}
use Rattle.field.specs.Ext as E
use Rattle.field.specs.Element.{dec}
use Rattle.field.specs.Cells.{Clean}
use Rattle.gkr.specs.Run.{Frac}
use Rattle.step.specs.declared.Frac.{Frac as FracW}
use Rattle.step.specs.Values.{IsFrac}
use Rattle.wire.specs.Words.{bad_place}
use Rattle.wire.specs.WordLaws.{canonical_below}
use Rattle.wire.specs.PlaceLaws.{place_canonical, place_bad}
use Rattle.prover_tree.specs.Nodes.{node}
use Rattle.prover_gate.specs.Refusals.{degenerate, lowest, lowest_row}

-- the test of the row that was read
pub row_told : {f : FracW} {x : Frac E.Ext} {b v : Bool} → IsFrac f x → b ≡ E.same (dec f.q) E.nil → b ≡ v → degenerate x ≡ v
unfolding degenerate
row_told h e t = ap (λ y. E.same y E.nil) (sym h.q.value) ∙ sym e ∙ t

module _ (rows : List ℕ) (count i : ℕ) (s : lowest rows count 0 ≡ lowest rows (count - i) i) where
  -- it is sought from the next row on
  pub rows_next : i < count → degenerate (node rows i) ≡ false → lowest rows count 0 ≡ lowest rows (count - (i + 1)) (i + 1)
  unfolding lowest
  rows_next l h =
      let e : count - i ≡ suc (count - (i + 1)) = omega arith in
      s ∙ rw (e, h) (ap (lowest rows (count - (i + 1))) (sym (add-one i)))

  pub rows_here : i < count → degenerate (node rows i) ≡ true → Some i ≡ lowest_row rows count
  unfolding lowest
  rows_here l h =
      let e : count - i ≡ suc (count - (i + 1)) = omega arith in
      let k : lowest rows count 0 ≡ i = s ∙ rw (e, h) in
      rw (k, lt-ltb _ _ l)

  pub rows_end : i ≡ count → None ≡ lowest_row rows count
  unfolding lowest
  rows_end h =
      let e : count - i ≡ 0 = omega arith in
      let k : lowest rows count 0 ≡ i = s ∙ rw e in
      rw (k, le-ltb i count (omega arith))

-- a search of words that found none
pub clean_words : (ws : List ℕ) → None ≡ bad_place ws → Clean ws
clean_words ws h = record { below = canonical_below ws (place_canonical ws h) }

-- what the searches of words say
pub ruleset searches = (place_canonical, place_bad, clean_words)
