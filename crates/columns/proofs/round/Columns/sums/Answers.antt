use Rattle.std.proofs.Common.{rules}
use Rattle.columns.proofs.Turns.{zero_is}
use Rattle.columns.proofs.Summands.{sums_none, sums_turn}
use Rattle.columns.proofs.round.Columns.sums.Goals as goal

pub loop-y-init : goal.loop-y-init
loop-y-init c =
    sums_none _ _ _ _ (record { s1 = record { canon = search rules; value = zero_is }; s2 = record { canon = search rules; value = zero_is }; s3 = record { canon = search rules; value = zero_is } })

pub loop-y-preserved : goal.loop-y-preserved
loop-y-preserved c = sums_turn _ _ _ c.loop-y.y _ _ _ c.loop-y.invariant c.pair.ensures c.add-acc.ensures
