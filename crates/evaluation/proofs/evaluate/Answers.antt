use Rattle.std.proofs.Common.{◌≡◌, arith}
use Rattle.std.proofs.lemmas.Grind.{common_steps}
use Rattle.refusal.specs.Tests.{passed, first_of}
use Rattle.evaluation.specs.Evaluated.{tests}
use Rattle.evaluation.proofs.Answering.{searches, told_none, told_some}
use Rattle.evaluation.proofs.evaluate.Goals.{then-count-eq0, else-count-eq0}
use Rattle.evaluation.proofs.evaluate.Goals as goal

pub returns : goal.returns
unfolding first_of
returns c =
    let h : first_of (tests c.args.rows.now c.args.point.now) ≡ passed = grind (arith, common_steps, searches) in
    elim c.if-count-eq0.branch [
      | then-count-eq0 w ↦ rw w.value-is (told_none _ _ c.rounds_of-n.ensures.least h w.if-count-eq0.true w.empty_sum-value.ensures)
      | else-count-eq0 w ↦ rw w.value-is (told_some _ _ c.rounds_of-n.ensures.least h w.if-count-eq0.false w.eval_rows_by_halves-value.ensures)
    ]
