-- No second answer fits the end of a round, or all of them, but for the sponge.
-- Assumes nothing.
use Rattle.std.specs.Prelude.{◌≡◌, List, ℕ}
use Rattle.std.proofs.Common.{sym, ◌∙◌}
use Rattle.field.specs.Ext as E
use Rattle.field.specs.CellLaws.{stored_unique}
use Rattle.field.specs.Cells.{cells}
use Rattle.gkr.specs.Run.{Frac}
use Rattle.gkr.specs.Transcripts.{Source}
use Rattle.transcript.specs.Log.{State}
use Rattle.transcript.specs.LogLaws.{SameState, steps_unique}
use Rattle.prover_rounds.specs.Layers.{RoundClosed, AllLayers}

pub closed_unique : {ws pt pt' pt'' : List ℕ} {s s' s'' : State} {ch : Source E.Ext} {b : ℕ} → RoundClosed ws pt pt' s s' ch b → RoundClosed ws pt pt'' s s'' ch b → SameState s' s'' × (pt' ≡ pt'')
closed_unique h k = (steps_unique h.steps k.steps, stored_unique h.stored k.stored)

-- all layers over the rows f: where the run stands, the log and the point
pub layers_unique : {f : ℕ → Frac E.Ext} {pt pt' pt'' : List ℕ} {s s' s'' : State} {ch : Source E.Ext} {n g : ℕ} → AllLayers f pt pt' s s' ch n g → AllLayers f pt pt'' s s'' ch n g
    → SameState s' s'' × (cells pt' 0 n ≡ cells pt'' 0 n)
layers_unique h k = (steps_unique h.steps k.steps, h.point ∙ sym k.point)
