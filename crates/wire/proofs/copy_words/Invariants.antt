use Rattle.std.proofs.Common.{◌≡◌, ◌++◌, drop}
use Rattle.wire.specs.Bytes.{words_from}
use Rattle.wire.proofs.copy_words.Given as goal

abbrev pub invariant-loop-i : goal.invariant-loop-i
invariant-loop-i l = l.words ≡ words_from l.i (drop l.at l.bytes) ++ drop l.i l.initial.words
