use Rattle.std.proofs.Common.{◌≡◌, ◌<◌, ◌≤◌, length}
use Rattle.stored_test.proofs.text.numbers.Given as goal

abbrev pub invariant-loop-b : goal.invariant-loop-b
invariant-loop-b l = (l.r.count ≤ length l.out) × (length l.out ≡ length l.initial.out) × (l.r.value < 4294967296)
