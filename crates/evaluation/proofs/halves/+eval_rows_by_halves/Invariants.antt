use Rattle.evaluation.proofs.halves.+eval_rows_by_halves.Given as goal

-- proposed from what the function passes where it calls itself
abbrev pub decreases-eval_rows_by_halves : goal.decreases-eval_rows_by_halves
decreases-eval_rows_by_halves l = l.n
