-- What a run used up, by its log: the challenges sampled and the words written.
-- Assumes nothing.
use Rattle.std.specs.Prelude.{ℕ, length}
use Rattle.gkr.specs.Transcripts.{Words}
use Rattle.transcript.specs.Log.{State}
use Rattle.transcript.specs.declared.Used.{Used}

abbrev pub used : (challenges words : ℕ) → Used
used challenges words = record { challenges = challenges; words = words }

-- of the model's log
abbrev pub used_up : Words → Used
used_up t = used t.used (length t.log)

abbrev pub unused : Used
unused = used 0 0

-- at a state
abbrev pub used_at : State → Used
used_at s = used s.used s.put
