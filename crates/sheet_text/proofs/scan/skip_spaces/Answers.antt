use Rattle.sheet_text.proofs.Scanning.{space_more, space_none, spaces_end}
use Rattle.std.proofs.Common.{◌≡◌, ◌∙◌, arith}
use Rattle.sheet_text.proofs.scan.skip_spaces.Goals as goal

pub returns-then-not-is_space : goal.returns-then-not-is_space
returns-then-not-is_space c = space_none _ _ c.loop-i-test.true _ c.is_space.ensures c.if-not-is_space.true ∙ c.loop-i.invariant.1

pub loop-i-preserved : goal.loop-i-preserved
loop-i-preserved c = (omega arith, space_more _ _ c.loop-i-test.true _ c.is_space.ensures c.if-not-is_space.false ∙ c.loop-i.invariant.1)

pub returns : goal.returns
returns c = let e : c.max.result ≡ c.loop-i.i = omega arith in rw e (spaces_end _ _ c.loop-i-test.false ∙ c.loop-i.invariant.1)
