use mathlib.Core.Path.{refl, sym, ap, ◌∙◌}
use Rattle.log_replay.proofs.Taking.{poured, poured_next, poured_out, all_taken}
use native.Mathlib.Omega.{arith}
use Rattle.log_replay.proofs.take_challenges.Goals as goal

pub loop-w-init : goal.loop-w-init
loop-w-init c = (refl, ap (λ l. poured c.args.log.now l 0) c.requires ∙ all_taken c.args.log.now)

pub loop-w-preserved : goal.loop-w-preserved
loop-w-preserved c = let s = c.loop-w in
    let t = c.take_word-k in
    (t.auto.challenges ∙ s.invariant.0, poured_next c.args.log.now s.challenges s.w-index s.k (omega arith) t.ensures.0 t.ensures.1 ∙ s.invariant.1)

pub returns : goal.returns
returns c = let s = c.loop-w in
    sym (poured_out c.args.log.now s.challenges s.w-index s.k (omega arith)) ∙ s.invariant.1
