-- What a call writes stands at the front of a buffer, and the rest is as before.
-- Assumes nothing.
use Rattle.std.specs.Prelude.{List, ◌++◌, ℕ, length, drop}

-- ws at the front of a buffer
abbrev pub over : (ws buffer : List ℕ) → List ℕ
over ws buffer = ws ++ drop (length ws) buffer
