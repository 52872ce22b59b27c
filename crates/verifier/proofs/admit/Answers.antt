use Rattle.std.proofs.lemmas.Result.{err_from_is_err_and}
use Rattle.verifier.specs.Verified.{asked}
use Rattle.verifier.specs.Gates.{unrooted}
use Rattle.verifier.proofs.EndLaws.{opened_of}
use Rattle.verifier.proofs.RootLaws.{stays_shut, root_next}
use Rattle.verifier.proofs.admit.Goals as goal

pub check_root-requires : goal.check_root-requires
check_root-requires c = let o = opened_of (asked c.args.proof.now c.args.rounds (unrooted c.args.modes) c.args.challenges.now) c.args.points c.args.logs c.check.result _ c.in_ok-outline.was c.check.ensures in
    o.shaped

pub returns-in_err-outline : goal.returns-in_err-outline
returns-in_err-outline c = let p = err_from_is_err_and c.from_residual.result c.from_residual.ensures.1 in
    rw (p.1, p.2) (stays_shut (asked c.args.proof.now c.args.rounds c.args.modes c.args.challenges.now) c.args.points c.args.logs c.check.result _ c.in_err-outline.was c.check.ensures)

pub returns : goal.returns
returns c = let o = opened_of (asked c.args.proof.now c.args.rounds (unrooted c.args.modes) c.args.challenges.now) c.args.points c.args.logs c.check.result _ c.in_ok-outline.was c.check.ensures in
    root_next (asked c.args.proof.now c.args.rounds c.args.modes c.args.challenges.now) c.args.points c.args.logs _ o _ c.check_root.ensures
