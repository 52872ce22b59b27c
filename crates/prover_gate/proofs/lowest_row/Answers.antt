use Rattle.std.proofs.Common.{arith}
use Rattle.prover_gate.proofs.Admitting.{row_told, rows_next, rows_here, rows_end}
use Rattle.prover_gate.proofs.lowest_row.Goals as goal

pub returns-then-is_zero : goal.returns-then-is_zero
returns-then-is_zero c = rows_here _ _ _ c.loop-row.invariant.1 c.loop-row-test.true (row_told c.load_node.ensures c.is_zero.ensures c.if-is_zero.true)

pub loop-row-preserved : goal.loop-row-preserved
loop-row-preserved c = (omega arith, rows_next _ _ _ c.loop-row.invariant.1 c.loop-row-test.true (row_told c.load_node.ensures c.is_zero.ensures c.if-is_zero.false))

pub returns : goal.returns
returns c = rows_end _ _ _ c.loop-row.invariant.1 (omega arith)
