use Rattle.prover_tree.proofs.Memory.{node_stored}
use Rattle.prover_tree.proofs.store_node.Goals as goal

pub returns : goal.returns
returns c = node_stored _ _ _ _ _ c.store.ensures c.store-2.ensures
