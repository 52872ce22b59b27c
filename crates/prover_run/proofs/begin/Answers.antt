use Rattle.field.specs.Element.{dec}
use Rattle.prover_rounds.proofs.Room.{once_observed}
use Rattle.prover_run.proofs.begin.Goals as goal

pub returns-then-not-asserted-clause-length : goal.returns-then-not-asserted-clause-length
returns-then-not-asserted-clause-length c = once_observed (dec c.args.p) (rw c.if-not-asserted.true at c.requires.room) c.observe_ext.ensures.steps
