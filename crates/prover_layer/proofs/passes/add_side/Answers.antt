use Rattle.prover_layer.proofs.Passing.{side_added}
use Rattle.prover_layer.proofs.passes.add_side.Goals as goal

pub returns : goal.returns
returns c = let a = c.args in
    side_added _ a.at a.pq a.off a.y _ _ _ a.acc _ c.load_pair-t.ensures c.sum_of_products-n.ensures c.load.ensures c.times_plus.ensures
