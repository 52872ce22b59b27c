-- How much was read of a file.
-- Assumes nothing.
use Rattle.std.specs.Prelude.{ℕ}
use Rattle.command_files.specs.declared.Input.{Input}
use Rattle.command_files.specs.declared.Input.TheVariants.{Whole, Front}

abbrev pub bytes_read : Input → ℕ
bytes_read (Whole n) = n
bytes_read (Front n) = n
