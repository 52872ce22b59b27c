use mathlib.Core.Path.{refl}
use Rattle.keccak.specs.Keccak.{rounds}
use Rattle.keccak.specs.Tables.{table}
use Rattle.keccak.proofs.Rounds.{constant_at, one_more, with_constant, all_rounds}
use native.Mathlib.Omega.{arith}
use Rattle.keccak.proofs.permute.Goals as goal

pub loop-word-init : goal.loop-word-init
unfolding rounds
loop-word-init c = refl

pub loop-word-preserved : goal.loop-word-preserved
unfolding table
loop-word-preserved c =
    one_more _ _ c.loop-word.invariant
    (with_constant _ _ (constant_at c.loop-word.word-index (omega arith)) c.one_round-s.ensures)

pub returns : goal.returns
returns c = all_rounds _ _ (omega arith) c.loop-word-test.false c.loop-word.invariant
