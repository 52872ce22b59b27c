use Rattle.std.proofs.Common.{◌≡◌, ◌≤◌, max, length, drop}
use Rattle.sheet_text.specs.Scan.{spaces_from, spaces_at}
use Rattle.sheet_text.proofs.scan.skip_spaces.Given as goal

abbrev pub invariant-loop-i : goal.invariant-loop-i
invariant-loop-i l = (l.i ≤ max l.at (length l.text)) × (spaces_from l.i (drop l.i l.text) ≡ spaces_at l.text l.at)
