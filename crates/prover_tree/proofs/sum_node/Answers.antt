use Rattle.prover_tree.proofs.Memory.{sum_stored}
use Rattle.prover_tree.proofs.sum_node.Goals as goal

pub returns : goal.returns
returns c = sum_stored _ _ _ _ _ _ c.store_node.ensures c.add-f.ensures c.load_node.ensures c.load_node-2.ensures
