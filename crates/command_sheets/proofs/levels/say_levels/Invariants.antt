use Rattle.std.proofs.Common.{◌≤◌}
use Rattle.command_sheets.proofs.levels.say_levels.Given as goal

abbrev pub invariant-loop-first : goal.invariant-loop-first
invariant-loop-first l = l.first ≤ l.size

abbrev pub decreases-loop-first : goal.decreases-loop-first
decreases-loop-first l = l.first
