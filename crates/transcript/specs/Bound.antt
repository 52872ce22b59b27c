-- The log that a run begins with: a proof that binds its size has n observed before anything else.
-- Assumes nothing.
use Rattle.std.specs.Prelude.{Bool, true, false, ℕ}
use Rattle.field.specs.Ext as E
use Rattle.gkr.specs.Transcripts.{Words}
use Rattle.transcript.specs.Log.{Observing}

abbrev pub bound : (sized : Bool) (n : ℕ) (t : Words) → Words
bound true n t = Observing.observe (E.ext n 0 0 0) t
bound false n t = t
