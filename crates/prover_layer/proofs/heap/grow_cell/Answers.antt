use Rattle.prover_layer.proofs.Heaps.{grown_two}
use borrow.Author.Rules.{rules}
use Rattle.prover_layer.proofs.heap.grow_cell.Goals as goal

pub store-requires-2 : goal.store-requires-2
store-requires-2 c = record { room = search rules; clean = c.store.ensures.clean; canon = c.double_entry-d.ensures.1.canon }

pub returns : goal.returns
returns c = grown_two _ _ _ c.args.from c.args.to c.args.i _ _ _ _ c.load.ensures.value c.double_entry-d.ensures.0.value c.double_entry-d.ensures.1.value c.store.ensures c.store-2.ensures
