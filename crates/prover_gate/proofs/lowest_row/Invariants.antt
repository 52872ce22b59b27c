use Rattle.std.proofs.Common.{◌≡◌, ◌-◌, ◌≤◌}
use Rattle.prover_gate.specs.Refusals.{lowest}
use Rattle.prover_gate.proofs.lowest_row.Given as goal

abbrev pub invariant-loop-row : goal.invariant-loop-row
invariant-loop-row l = (l.row ≤ l.count) × (lowest l.rows l.count 0 ≡ lowest l.rows (l.count - l.row) l.row)
