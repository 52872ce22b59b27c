use Rattle.transcript.proofs.Logs.{same_source}
use Rattle.verifier_rounds.proofs.GoingLaws.{root_goes, root_end}
use Rattle.verifier_rounds.proofs.verify_all.Goals as goal

pub returns-clause-ended : goal.returns-clause-ended
returns-clause-ended c = let g = root_goes c.args.proof.now _ _ _ c.args.polys c.args.rounds _ _ _ _ c.element_at-q0.ensures c.read_claims-c.ensures c.verify_root.ensures.rooted _ c.in_ok-s.was in
    root_end c.args.proof.now _ _ _ c.args.polys c.args.rounds _ _ _ _ c.element_at-q0.ensures c.read_claims-c.ensures c.verify_root.ensures.rooted _ _ _ c.verify_rounds.result c.in_ok-s.was (same_source g.steps) c.verify_rounds.ensures.ended
