use Rattle.sheet_text.proofs.Scanning.{digit_more, digit_ends, number_ends, grown_most}
use Rattle.std.proofs.Common.{◌≡◌, ◌∙◌, arith}
use Rattle.sheet_text.proofs.scan.number_at.Goals as goal

pub returns-then-d-gt9 : goal.returns-then-d-gt9
returns-then-d-gt9 c = digit_ends _ _ _ c.loop-i-test.true _ c.digit-d.ensures c.if-d-gt9.true ∙ c.loop-i.invariant.2

pub loop-i-preserved : goal.loop-i-preserved
loop-i-preserved c = (grown_most _ _ _ c.grow-value.ensures, omega arith, digit_more _ _ _ c.loop-i-test.true _ _ c.digit-d.ensures c.if-d-gt9.false c.grow-value.ensures ∙ c.loop-i.invariant.2)

pub returns : goal.returns
returns c = let e : c.max.result ≡ c.loop-i.i = omega arith in rw e (number_ends _ _ _ c.loop-i-test.false ∙ c.loop-i.invariant.2)
