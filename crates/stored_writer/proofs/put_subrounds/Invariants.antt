use Rattle.std.proofs.Common.{◌+◌, ◌-◌, ◌*◌}
use Rattle.wire.specs.Bytes.{bytes_of}
use Rattle.wire.specs.Written.{Writing}
use Rattle.stored.specs.Layout.{cubics_words}
use Rattle.stored_writer.specs.Messages.{stored_polys}
use Rattle.stored_writer.proofs.put_subrounds.Given as goal

abbrev pub invariant-loop-j : goal.invariant-loop-j
invariant-loop-j l = Writing l.initial.out l.out l.initial.p l.p (bytes_of (cubics_words (stored_polys l.log (l.i + 4 * l.j) (l.k - l.j)))) (bytes_of (cubics_words (stored_polys l.log l.i l.k)))
