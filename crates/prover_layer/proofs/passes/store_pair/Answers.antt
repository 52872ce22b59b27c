use Rattle.prover_layer.proofs.Passing.{pair_stored}
use borrow.Author.Rules.{rules}
use Rattle.prover_layer.proofs.passes.store_pair.Goals as goal

pub store_node-requires-2 : goal.store_node-requires-2
store_node-requires-2 c = record { room = search rules; clean = c.store_node.ensures.clean; canon = search rules }

pub returns : goal.returns
returns c = pair_stored _ _ _ c.args.pq c.args.i c.args.t c.store_node.ensures c.store_node-2.ensures
