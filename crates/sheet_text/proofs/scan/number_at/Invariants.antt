use Rattle.std.proofs.Common.{◌≡◌, ◌≤◌, max, length, drop}
use Rattle.field.specs.Base.{P}
use Rattle.sheet_text.specs.Scan.{number_from, number_at}
use Rattle.sheet_text.proofs.scan.number_at.Given as goal

abbrev pub invariant-loop-i : goal.invariant-loop-i
invariant-loop-i l = (l.value ≤ P) × (l.i ≤ max l.at (length l.text)) × (number_from l.value l.i (drop l.i l.text) ≡ number_at l.text l.at)
