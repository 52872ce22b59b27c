use Rattle.std.proofs.Common.{drop}
use Rattle.wire.specs.Bytes.{bytes_of}
use Rattle.wire.specs.Written.{Writing}
use Rattle.wire.proofs.put_words.Given as goal

abbrev pub invariant-loop-word : goal.invariant-loop-word
invariant-loop-word l = Writing l.initial.out l.out l.initial.p l.p (bytes_of (drop l.word-index l.words)) (bytes_of l.words)
