use mathlib.Core.Path.{◌∙◌}
use Rattle.verifier.specs.Verified.{asked, lent}
use Rattle.verifier.proofs.NoRounds.{ready_empty, empty_is, also_run, run_same}
use Rattle.verifier.proofs.verify_admitted.Goals as goal

pub verify_empty-requires : goal.verify_empty-requires
verify_empty-requires c = ready_empty (asked c.args.proof.now c.args.rounds c.args.modes c.args.challenges.now) _ _ _ c.requires

pub returns-then-rounds-eq0 : goal.returns-then-rounds-eq0
returns-then-rounds-eq0 c = empty_is (asked c.args.proof.now c.args.rounds c.args.modes c.args.challenges.now) (lent c.args.point.now c.args.log.now) _ c.requires c.if-rounds-eq0.true _ _ c.verify_empty.ensures c.at_once.ensures

pub run-requires : goal.run-requires
run-requires c = also_run (asked c.args.proof.now c.args.rounds c.args.modes c.args.challenges.now) (lent c.args.point.now c.args.log.now) _ c.if-rounds-eq0.false c.requires

pub returns : goal.returns
returns c = c.run.ensures ∙ run_same (asked c.args.proof.now c.args.rounds c.args.modes c.args.challenges.now) (lent c.args.point.now c.args.log.now) _ c.if-rounds-eq0.false c.requires
