use Rattle.std.proofs.Common.{◌≡◌, ◌++◌, drop}
use Rattle.wire.specs.Bytes.{words_from}
use Rattle.command_files.proofs.logs.copy_log.Given as goal

abbrev pub invariant-loop-i : goal.invariant-loop-i
invariant-loop-i l = l.words ≡ words_from l.i l.bytes ++ drop l.i l.initial.words
