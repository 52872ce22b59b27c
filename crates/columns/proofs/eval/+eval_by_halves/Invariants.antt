use Rattle.columns.proofs.eval.+eval_by_halves.Given as goal

-- proposed from what the function passes where it calls itself
abbrev pub decreases-eval_by_halves : goal.decreases-eval_by_halves
decreases-eval_by_halves l = l.n
