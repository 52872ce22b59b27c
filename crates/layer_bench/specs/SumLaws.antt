-- No second target fits. A lent slice keeps its length.
-- Assumes nothing.
use Rattle.std.specs.Prelude.{◌≡◌, List, ℕ, zero, suc, length}
use Rattle.std.proofs.Common.{sym, ◌∙◌, arith}
use Rattle.field.specs.Ext as E
use Rattle.field.specs.Cells.{cell}
use Rattle.field.specs.CellLaws.{cells_unique}
use Rattle.layer_bench.specs.Sums.{InFront}

pub in_front_unique : {ws l m : List ℕ} {a b c : E.Ext} → length l ≡ length m → InFront ws l a b c → InFront ws m a b c → l ≡ m
in_front_unique {ws} {l} {m} e h k = cells_unique l m h.clean k.clean e at
  where
    at : (j : ℕ) → cell l j ≡ cell m j
    at zero = h.first ∙ sym k.first
    at (suc zero) = h.second ∙ sym k.second
    at (suc (suc zero)) = h.third ∙ sym k.third
    at (suc (suc (suc j))) = h.rest (suc (suc (suc j))) (omega arith) ∙ sym (k.rest (suc (suc (suc j))) (omega arith))
