use mathlib.Core.Path.{◌≡◌, subst}
use mathlib.Core.List.{List}
use Prim.Native.Nat.{ℕ}
use Rattle.field.specs.Ext as E
use Rattle.prover_layer.specs.Passes.{Folded}
use Rattle.layer_bench.proofs.layer_bench_fold.Goals as goal

at_value : {ws ws' : List ℕ} {pq half : ℕ} {x y : E.Ext} → x ≡ y → Folded ws ws' pq half x → Folded ws ws' pq half y
at_value {ws} {ws'} {pq} {half} e h = subst (λ t. Folded ws ws' pq half t) e h

pub returns : goal.returns
returns c = at_value c.load.ensures.value c.fold_mle_evals.ensures
