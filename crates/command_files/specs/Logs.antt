-- The words of a log that were given in a file.
-- Assumes nothing.
use Rattle.std.specs.Prelude.{if◌then◌else◌, List, ◌++◌, ℕ, ◌/◌, ◌%◌, ◌==◌, nat_lt, length, drop}
use Rattle.wire.specs.Bytes.{words_from}
use Rattle.command_files.specs.Given.{End, some, nothing, Contents, unread, held}

-- so many words at the front
abbrev pub words_of_log : (n : ℕ) (bytes old : List ℕ) → End
words_of_log n bytes old = if nat_lt (length old) n then nothing old else some n (words_from n bytes ++ drop n old)

-- whole words alone, and no more than there is room for
unfoldable pub log_of : (bytes old : List ℕ) → End
log_of bytes old = if length bytes % 4 == 0 then words_of_log (length bytes / 4) bytes old else nothing old

abbrev pub log_given : List ℕ → Contents → End
log_given old unread = nothing old
log_given old (held bytes) = log_of bytes old
