-- No second answer and no second log fit a run, but for the sponge. Of the point only the coordinates are said, of the workspace only the tree: the entry point clears both.
-- Assumes nothing.
use Rattle.std.specs.Prelude.{◌≡◌, List, ℕ, suc, ◌^◌}
use Rattle.std.proofs.Common.{sym, ◌∙◌}
use Rattle.field.specs.Ext as E
use Rattle.field.specs.Cells.{cells}
use Rattle.gkr.specs.Run.{Frac}
use Rattle.gkr.specs.Transcripts.{Source}
use Rattle.transcript.specs.Log.{State}
use Rattle.transcript.specs.LogLaws.{SameState, steps_unique}
use Rattle.step.specs.declared.Frac.{Frac as FracW}
use Rattle.step.specs.ValueLaws.{frac_unique}
use Rattle.prover_run.specs.Runs.{Planted, RunOf}

-- the sum of two or more rows
pub root_unique : {rows ws' ws'' : List ℕ} (size m : ℕ) {r s : FracW} → size ≡ 2 ^ suc m → Planted rows ws' size r → Planted rows ws'' size s → r ≡ s
root_unique size m e h k = frac_unique (h.sum m e) (k.sum m e)

pub run_unique : {f : ℕ → Frac E.Ext} {pt' pt'' : List ℕ} {s s' s'' : State} {ch : Source E.Ext} {m : ℕ} → RunOf f pt' s s' ch m → RunOf f pt'' s s'' ch m
    → SameState s' s'' × (cells pt' 0 (suc m) ≡ cells pt'' 0 (suc m))
run_unique h k = (steps_unique h.steps k.steps, h.point ∙ sym k.point)
