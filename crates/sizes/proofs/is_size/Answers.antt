use Rattle.std.proofs.Common.{◌^◌, ◌∙◌, ap}
use Rattle.sizes.proofs.Sizing.{size_none, size_some}
use Rattle.sizes.proofs.is_size.Goals as goal

pub returns-then-count-eq0 : goal.returns-then-count-eq0
returns-then-count-eq0 c = size_none _ c.if-count-eq0.true

pub returns-else-count-eq0 : goal.returns-else-count-eq0
returns-else-count-eq0 c = size_some _ _ c.if-count-eq0.false (c.rows_of.ensures ∙ ap (λ k. 2 ^ k) c.rounds_of.ensures.least)
