use Rattle.std.proofs.Common.{◌≡◌, length}
use Rattle.prover_tree.specs.Nodes.{Summed}
use Rattle.prover_tree.proofs.sum_tree.Given as goal

abbrev pub invariant-loop-node_idx : goal.invariant-loop-node_idx
invariant-loop-node_idx l = (length l.work ≡ length l.initial.work) × Summed l.initial.work l.work l.node_idx l.size
