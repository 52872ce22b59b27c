use Rattle.prover_layer.proofs.Passing.{pair_risen}
use Rattle.prover_layer.proofs.passes.rise_entry.Goals as goal

pub returns : goal.returns
returns c =
    let l = c.zip.ensures in
    let r = c.zip-2.ensures in
    pair_risen _ _ c.args.pq c.args.y _ _ _ _ c.load_pair-a.ensures c.load_pair-b.ensures (record { p = l.0.2; q = l.1.2 }) (record { p = r.0.2; q = r.1.2 }) c.store_pair.ensures
