use Rattle.std.proofs.Common.{◌∙◌, ap, ◌^◌, arith}
use Rattle.prover_tree.specs.Nodes.{node}
use Rattle.prover.proofs.Answering.{prove_refused, prove_done, rewritten, levels_at}
use Rattle.prover.proofs.prove.Goals as goal

pub returns-then-contradicts : goal.returns-then-contradicts
returns-then-contradicts c =
    let p = c.requires.room in
    let s = c.sum_rows-root.ensures in
    λ m e.
    let z = c.rows_of.ensures ∙ ap (λ k. 2 ^ k) e in
    prove_refused c.args.rows.now _ _ _ _ c.args.work.now _ c.args.modes.sized m _ _ e p.work (s.sum m z) c.contradicts.ensures c.sum_rows-root.new.work _ c.if-contradicts.true (omega (arith, c.sum_rows-root.auto)) c.clear.ensures c.refuse.ensures

pub returns : goal.returns
returns c =
    let p = c.requires.room in
    let s = c.sum_rows-root.ensures in
    λ m e.
    let z = c.rows_of.ensures ∙ ap (λ k. 2 ^ k) e in
    prove_done c.args.rows.now _ _ _ _ c.args.work.now _ c.args.modes.sized m _ _ e p.work (s.sum m z) c.contradicts.ensures _ _ c.if-contradicts.false
    (rewritten {ws = c.args.work.now} {ws₁ = c.sum_rows-root.new.work} (omega (arith, c.sum_rows-root.auto)) (c.write_run-used.ensures (node c.args.rows.now) m e (levels_at e (s.levels m z)) (s.sum m z)))
