use Rattle.std.proofs.lemmas.Result.{err_from_is_err_and}
use Rattle.verifier.specs.Verified.{lent}
use Rattle.agreement.proofs.Joining.{all_taken, done_few, done_there, joined_refused, joined_proved, agrees}
use Rattle.agreement.proofs.prove_and_verify.Goals as goal

pub returns-in_err-done : goal.returns-in_err-done
returns-in_err-done c =
    let p = err_from_is_err_and c.from_residual.result c.from_residual.ensures.1 in
    let t = joined_refused _ _ _ (lent c.args.point_again.now c.args.log_again.now) c.fractional_sumcheck-proved.ensures c.in_err-done.was in
    rw (p.1, p.2) (record { both = t; demand = λ n h d a z r s. agrees _ _ _ _ _ t n h d a z r s })

pub proof_bytes-size-requires : goal.proof_bytes-size-requires
proof_bytes-size-requires c = done_few _ _ c.fractional_sumcheck-proved.ensures c.in_ok-done.was

pub slice_bounds-verify_gkr-end : goal.slice_bounds-verify_gkr-end
slice_bounds-verify_gkr-end c = done_there _ _ c.fractional_sumcheck-proved.ensures c.in_ok-done.was c.proof_bytes-size.ensures c.fractional_sumcheck-proved.auto.proof

pub slice_bounds-verify_gkr-end-2 : goal.slice_bounds-verify_gkr-end-2
slice_bounds-verify_gkr-end-2 c = all_taken _ _ (done_there _ _ c.fractional_sumcheck-proved.ensures c.in_ok-done.was c.proof_bytes-size.ensures c.fractional_sumcheck-proved.auto.proof)

pub returns : goal.returns
returns c =
    let t = joined_proved _ _ _ _ c.fractional_sumcheck-proved.ensures c.in_ok-done.was c.proof_bytes-size.ensures c.verify_gkr-verified.ensures in
    record { both = t; demand = λ n h d a z r s. agrees _ _ _ _ _ t n h d a z r s }
