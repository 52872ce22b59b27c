use Rattle.std.proofs.Common.{◌≡◌, ◌+◌, ◌-◌, ◌*◌}
use Rattle.wire.specs.Written.{Writing}
use Rattle.stored.specs.Layout.{entries_bytes}
use Rattle.stored_writer.specs.Messages.{stored_entries, words_of_log}
use Rattle.stored_writer.proofs.put_entries.Given as goal

abbrev pub invariant-loop-r : goal.invariant-loop-r
invariant-loop-r l = record {
  cell : 4 * l.c + words_of_log 1 ≡ 4 * l.i + words_of_log l.r;
  writing : Writing l.initial.out l.out l.initial.p l.p (entries_bytes (stored_entries l.log l.c l.r (l.n - l.r))) (entries_bytes (stored_entries l.log l.i 1 (l.n - 1)));
}
