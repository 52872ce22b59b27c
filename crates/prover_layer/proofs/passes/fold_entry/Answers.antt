use native.Mathlib.Omega.{arith}
use Rattle.prover_layer.proofs.Passing.{pair_folded}
use Rattle.prover_layer.proofs.passes.fold_entry.Goals as goal

pub times_plus-requires-3 : goal.times_plus-requires-3
times_plus-requires-3 c = (c.load_pair-d.ensures.r.p.canon, c.requires.clean.1)

pub times_plus-requires-4 : goal.times_plus-requires-4
times_plus-requires-4 c = (c.load_pair-d.ensures.r.q.canon, c.requires.clean.1)

pub store_pair-requires : goal.store_pair-requires
store_pair-requires c = record { room = omega (arith, c.requires.room); clean = (c.requires.clean.0, record { l = record { p = c.times_plus.ensures.canon; q = c.times_plus-2.ensures.canon }; r = record { p = c.times_plus-3.ensures.canon; q = c.times_plus-4.ensures.canon } }) }

pub returns : goal.returns
returns c = pair_folded _ _ c.args.pq c.args.y _ _ _ _ _ _ _ c.load_pair-low.ensures c.load_pair-d.ensures c.times_plus.ensures c.times_plus-2.ensures c.times_plus-3.ensures c.times_plus-4.ensures c.store_pair.ensures
