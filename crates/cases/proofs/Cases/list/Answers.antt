use Rattle.std.proofs.Common.{◌∙◌, length-set}
use Rattle.cases.proofs.Reading.{list_more, list_ends}
use Rattle.cases.proofs.Cases.list.Goals as goal

pub loop-i-preserved : goal.loop-i-preserved
loop-i-preserved g c =
    let inv = c.loop-i.invariant in (
      c.number-in-loop-i.ensures.same ∙ inv.0,
      simp length-set inv.1,
      list_more _ _ _ _ _ _ c.loop-i-test.true _ _ _ inv.0 c.number-in-loop-i.ensures.value c.cut.ensures ∙ inv.2,
    )

pub returns-clause-listed : goal.returns-clause-listed
returns-clause-listed g c = list_ends _ _ _ _ _ _ _ _ _ c.number.ensures.value c.least-count.ensures c.loop-i-test.false (c.loop-i.invariant.1, c.loop-i.invariant.2)
