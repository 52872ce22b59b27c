-- What the prover's inner functions ask for and leave.
-- Assumes nothing.
use Rattle.std.specs.Prelude.{◌≡◌, Bool, false, cond, List, ℕ, suc, ◌+◌, ◌*◌, ◌^◌, ◌≤◌, length, take, replicate, Result}
use Rattle.field.specs.Ext as E
use Rattle.field.specs.ExtRing.{ExtRing}
use Rattle.field.specs.Extension.{Extension}
use Rattle.field.specs.Element.{words_of_point}
use Rattle.field.specs.Cells.{Clean}
use Rattle.gkr.specs.Transcripts.{empty, Source}
use Rattle.gkr.specs.Run.{Frac}
use Rattle.gkr.specs.Sizes as Sizes
use Rattle.gkr.specs.Tree as Tree
use Rattle.gkr.specs.Gkr as Gkr
use Rattle.transcript.specs.Log.{Drawing}
use Rattle.transcript.specs.Bound.{bound}
use Rattle.transcript.specs.declared.Used.{Used}
use Rattle.transcript.specs.Used.{used_up}
use Rattle.stored.specs.Layout.{layout}
use Rattle.stored.specs.Elements.{encoded}
use Rattle.stored.specs.Lengths.{proof_size}
use Rattle.prover_run.specs.Runs.{begun}
use Rattle.prover_rounds.specs.Layers.{log_up_to, used_up_to}
use Rattle.refusal.specs.Limits.{max_rounds}
use Rattle.refusal.specs.declared.Proving.{Proving}
use Rattle.refusal.specs.declared.Refusal.{Refusal}
use Rattle.sizes.specs.Sizes.{row_count, rounds_of, needed_words, log_room, work_room}
use Rattle.prover_gate.specs.declared.Rooms.{Rooms}
use Rattle.refusal.specs.Fronts.{over}
use Rattle.prover.specs.declared.Done.{Done}
use Rattle.prover.specs.declared.Ending.{Ending}
use Rattle.prover.specs.Proved.{Buffers}

abbrev pub ending : Result Done Refusal → Used → Ending
ending answer used = record { answer = answer; used = used }

-- the model's run over 2 ^ suc m rows f
abbrev pub run_of : (f : ℕ → Frac E.Ext) (asserted sized : Bool) (m : ℕ) (ch : Source E.Ext) → Gkr.Proved Extension (Drawing ch)
run_of f asserted sized m ch = Gkr.run Extension (Drawing ch) m f (begun asserted (Tree.tree ExtRing f (suc m) 0).p (bound sized (suc m) empty))

-- it is written, what it used up is told, and the workspace wiped
pub record Written (f : ℕ → Frac E.Ext) (asserted sized : Bool) (m : ℕ) (ch : Source E.Ext) (b b' : Buffers) (u : Used) : Type 0 where
  pub used : u ≡ used_up (run_of f asserted sized m ch).log
  pub proof : b'.proof ≡ over (layout sized (encoded (run_of f asserted sized m ch).proof)) b.proof
  pub point : b'.point ≡ over (words_of_point (run_of f asserted sized m ch).point) b.point
  pub log : b'.log ≡ over (run_of f asserted sized m ch).log.log b.log
  pub work : b'.work ≡ replicate (length b.work) 0

-- the room of a run over n rounds, in the lent parts of these lengths, with so many challenge words
pub record Room (modes : Proving) (n challenges : ℕ) (r : Rooms) : Type 0 where
  pub some : 1 ≤ n
  pub few : n ≤ max_rounds
  pub proof : proof_size n ≤ r.proof
  pub point : r.point ≡ 4 * n
  pub log : cond modes.sized 4 0 + cond modes.assert_zero 0 4 + log_up_to n ≤ r.log
  pub used : modes.drawn ≡ false → 4 * used_up_to n ≤ challenges + 4
  pub work : r.work ≡ work_room n

-- what an open gate tells of a sheet of n rounds
pub record Opens (rows : List ℕ) (modes : Proving) (ch : List ℕ) (r : Rooms) (n : ℕ) : Type 0 where
  pub rounds : n ≡ rounds_of (row_count rows)
  pub few : n ≤ max_rounds
  pub words : length rows ≡ 8 * row_count rows
  pub all : (row_count rows ≡ 0 → ⊥) → row_count rows ≡ 2 ^ rounds_of (row_count rows)
  pub challenges : needed_words modes.drawn n ≤ length ch
  pub proof : Sizes.proof_bytes n ≤ r.proof
  pub point : Sizes.point_words n ≤ r.point
  pub log : log_room modes.assert_zero modes.sized n ≤ r.log
  pub work : work_room n ≤ r.work
  pub clean : Clean rows
  pub supplied : Clean (take (needed_words modes.drawn n) ch)
