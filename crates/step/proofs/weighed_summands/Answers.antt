use Rattle.step.proofs.Pairs.{summands_are}
use Rattle.step.proofs.weighed_summands.Goals as goal

pub returns : goal.returns
returns c =
    let d = c.zip-d.ensures in
    let t2 = c.zip-t2.ensures in
    let t3 = c.zip-t3.ensures in
    summands_are _ _ _ _ _
    (record { e = d.e.2; l = record { p = d.l.0.2; q = d.l.1.2 }; r = record { p = d.r.0.2; q = d.r.1.2 } })
    (record { e = t2.e.2; l = record { p = t2.l.0.2; q = t2.l.1.2 }; r = record { p = t2.r.0.2; q = t2.r.1.2 } })
    (record { e = t3.e.2; l = record { p = t3.l.0.2; q = t3.l.1.2 }; r = record { p = t3.r.0.2; q = t3.r.1.2 } })
    _ _ _ c.weighed_summand.ensures c.weighed_summand-2.ensures c.weighed_summand-3.ensures
