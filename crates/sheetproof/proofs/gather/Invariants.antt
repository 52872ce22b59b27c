-- The arguments so far end within the buffer, whose length stays.
use Rattle.std.proofs.Common.{length, ◌≡◌, ◌≤◌}
use Rattle.sheetproof.proofs.gather.Given as goal

abbrev pub invariant-loop-i : goal.invariant-loop-i
invariant-loop-i g l = (l.at ≤ length l.args) × (length l.args ≡ length l.initial.args)
