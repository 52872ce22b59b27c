-- The values of the sampled words of a log.
-- Assumes nothing.
use Rattle.std.specs.Prelude.{List, map, ℕ, ◌-◌, ◌^◌}
use Rattle.gkr.specs.TranscriptLaws.{sampled_words}

-- the value of a sampled word
abbrev pub unmark : ℕ → ℕ
unmark w = w - 2 ^ 31

-- the values of the sampled words of a log, in its order
abbrev pub words_sampled : List ℕ → List ℕ
words_sampled log = map unmark (sampled_words log)
