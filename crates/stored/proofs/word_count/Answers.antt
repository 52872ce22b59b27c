use Rattle.stored.proofs.SearchLaws.{word_total, size_most}
use native.Mathlib.Omega.{arith}
use Rattle.stored.proofs.word_count.Goals as goal

pub overflow_sub-result : goal.overflow_sub-result
overflow_sub-result c = omega (arith, size_most c.args.proof.now c.args.outline c.requires)

pub overflow_sub-result-2 : goal.overflow_sub-result-2
overflow_sub-result-2 c = omega (arith, size_most c.args.proof.now c.args.outline c.requires)

pub returns : goal.returns
returns c = word_total c.args.proof.now c.args.outline c.requires
