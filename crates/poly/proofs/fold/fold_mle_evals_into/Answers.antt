use Rattle.std.proofs.Common.{sym, arith}
use Rattle.poly.proofs.Gates.{fold_open}
use Rattle.poly.proofs.fold.fold_mle_evals_into.Goals as goal

pub fold_into-requires : goal.fold_into-requires
fold_into-requires c =
    let g = fold_open c.args.source.now c.args.target.now c.args.r (sym c.in_ok-fold_mle_evals_refusal.ensures) in
    record { room = (omega (arith, g.whole), omega (arith, g.room)); clean = (g.list, g.element) }
