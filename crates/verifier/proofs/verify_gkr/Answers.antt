use Rattle.verifier.specs.Verified.{asked, lent}
use Rattle.verifier.proofs.EndLaws.{opened_of, shut_is}
use lib.ListN.{length}
use Rattle.verifier.proofs.verify_gkr.Goals as goal

pub verify_admitted-requires : goal.verify_admitted-requires
verify_admitted-requires c = opened_of (asked c.args.proof.now c.args.rounds c.args.modes c.args.challenges.now) (length c.args.point.now) (length c.args.log.now) c.admit.result _ c.in-Ok.is c.admit.ensures

pub returns-in-Err : goal.returns-in-Err
returns-in-Err c = shut_is (asked c.args.proof.now c.args.rounds c.args.modes c.args.challenges.now) (lent c.args.point.now c.args.log.now) c.admit.result _ _ c.in-Err.is c.admit.ensures c.at_once.ensures

pub returns-in-Ok : goal.returns-in-Ok
returns-in-Ok c = c.verify_admitted.ensures
