use Rattle.std.proofs.Common.{◌≡◌, ◌+◌, ◌-◌, ◌*◌, drop}
use Rattle.wire.specs.Words.{first_bad}
use Rattle.wire.specs.Bytes.{words_from}
use Rattle.wire.proofs.first_bad_stored.Given as goal

-- the words passed are canonical: the first bad one stands as many further on
abbrev pub invariant-loop-i : goal.invariant-loop-i
invariant-loop-i l = first_bad (words_from l.n (drop l.at l.bytes)) ≡ l.i + first_bad (words_from (l.n - l.i) (drop (l.at + 4 * l.i) l.bytes))
