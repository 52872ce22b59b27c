use Rattle.prover_tree.proofs.Heap.{built}
use Rattle.prover_tree.proofs.build.Goals as goal

pub returns : goal.returns
returns c = built _ _ _ _ _ c.put_leaves.ensures c.sum_tree.ensures
