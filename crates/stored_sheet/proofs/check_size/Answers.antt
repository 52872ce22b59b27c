use Rattle.std.proofs.Common.{sym, ◌∙◌}
use Rattle.stored_sheet.proofs.SheetSteps.{size_many, size_odd, size_short, size_fits}
use Rattle.stored_sheet.proofs.check_size.Goals as goal

pub returns-then-count-gt-MAX_ROWS : goal.returns-then-count-gt-MAX_ROWS
returns-then-count-gt-MAX_ROWS c = size_many _ _ _ c.if-count-gt-MAX_ROWS.true

pub returns-then-not-zero_or_power : goal.returns-then-not-zero_or_power
returns-then-not-zero_or_power c = size_odd _ _ _ c.if-count-gt-MAX_ROWS.false (sym c.zero_or_power.ensures ∙ c.if-not-zero_or_power.true)

pub returns-then-room-need : goal.returns-then-room-need
returns-then-room-need c = size_short _ _ _ c.if-count-gt-MAX_ROWS.false (sym c.zero_or_power.ensures ∙ c.if-not-zero_or_power.false) c.if-room-need.true

pub returns-else-room-need : goal.returns-else-room-need
returns-else-room-need c = size_fits _ _ _ c.if-count-gt-MAX_ROWS.false (sym c.zero_or_power.ensures ∙ c.if-not-zero_or_power.false) c.if-room-need.false
