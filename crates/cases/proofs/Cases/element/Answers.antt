use Rattle.cases.proofs.Reading.{element_of_is}
use Rattle.cases.proofs.Cases.element.Goals as goal

pub returns-clause-value : goal.returns-clause-value
returns-clause-value c = element_of_is _ _ _ _ _ _ _ _ _ c.word-c0.ensures.same c.word-c1.ensures.same c.word-c2.ensures.same c.word-c0.ensures.value c.word-c1.ensures.value c.word-c2.ensures.value c.word-c3.ensures.value
