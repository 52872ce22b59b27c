use Rattle.std.proofs.Common.{◌≡◌, ◌≤◌, eqb, length, drop}
use Rattle.std.specs.List.{slice_split}
use Rattle.sheet_text.specs.Reading.{read_lines, list_read}
use Rattle.sheet_text.proofs.list.read_list.Given as goal

abbrev pub invariant-loop-i : goal.invariant-loop-i
invariant-loop-i l = (l.put ≤ length l.words) × (read_lines l.pairs (length l.yielded) l.put l.words (drop (length l.yielded) (slice_split (λ b. eqb b 10) l.text)) ≡ list_read l.pairs l.text l.initial.words)
