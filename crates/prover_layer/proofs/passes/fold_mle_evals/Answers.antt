use borrow.Author.Rules.{rules}
use mathlib.Core.Path.{◌≡◌}
use Rattle.prover_layer.proofs.Passing.{folds_none, folds_next}
use native.Mathlib.Omega.{arith}
use Rattle.prover_layer.proofs.passes.fold_mle_evals.Goals as goal

pub loop-y-init : goal.loop-y-init
loop-y-init c = (search rules, search rules, folds_none _ _ _ (search rules))

pub loop-y-preserved : goal.loop-y-preserved
loop-y-preserved c = let l = c.loop-y in
    (search rules, search rules, folds_next _ l.work _ _ l.y _ l.invariant.2 c.fold_entry.ensures)

pub returns : goal.returns
returns c = let e : c.loop-y.y ≡ c.args.half = omega arith in
    rw e at c.loop-y.invariant.2
