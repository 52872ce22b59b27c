use Rattle.std.proofs.Common.{sym, ◌∙◌, arith}
use borrow.Author.Tests.{eqb-true}
use Rattle.prover.proofs.Answering.{none_done}
use Rattle.prover.proofs.no_rounds.Goals as goal

pub returns : goal.returns
returns c = none_done c.args.rows.now c.args.proof.now c.put_no_rows.new.out c.args.modes c.nothing.ensures (omega (arith, eqb-true _ 0 (sym c.is_empty.ensures ∙ c.if-not-is_empty.false))) c.requires.1 (omega (arith, c.put_no_rows.auto)) c.put_no_rows.ensures.1
