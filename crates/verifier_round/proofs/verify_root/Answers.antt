use Rattle.std.proofs.Common.{refl, ◌∙◌}
use Rattle.field.specs.ElementLaws.{differ_words}
use Rattle.stored.specs.Shapes.{claims_in}
use Rattle.transcript.proofs.Logs.{same_source}
use Rattle.verifier_round.specs.Values.{dec_claims}
use Rattle.verifier_round.proofs.Alike.{descended_alike}
use Rattle.verifier_round.proofs.Ends.{root_zero, root_differs, root_go}
use Rattle.verifier_round.proofs.verify_root.Goals as goal

pub returns-then-ne-clause-rooted : goal.returns-then-ne-clause-rooted
returns-then-ne-clause-rooted c =
    let f = c.compute_recursive_relations in
    root_zero c.args.point.now _ c.args.q0 (dec_claims (claims_in c.args.c)) f.result _ f.ensures c.requires.clean.2 refl c.observe_ext.ensures.steps c.observe_layer_claims.ensures.steps
    (differ_words _ _ c.ne.ensures ∙ c.if-ne.true) c.requires.room.1

pub returns-then-ne-2-clause-rooted : goal.returns-then-ne-2-clause-rooted
returns-then-ne-2-clause-rooted c =
    let f = c.compute_recursive_relations in
    root_differs c.args.point.now _ c.args.q0 (dec_claims (claims_in c.args.c)) f.result _ f.ensures c.requires.clean.2 refl c.observe_ext.ensures.steps c.observe_layer_claims.ensures.steps
    _ (differ_words _ _ c.ne.ensures ∙ c.if-ne.false) refl (differ_words _ _ c.ne-2.ensures ∙ c.if-ne-2.true) c.requires.room.1

pub returns-clause-rooted : goal.returns-clause-rooted
returns-clause-rooted c =
    let f = c.compute_recursive_relations in
    let a = c.observe_ext.ensures.steps in
    let o = c.observe_layer_claims.ensures.steps in
    root_go c.args.point.now _ c.args.q0 (dec_claims (claims_in c.args.c)) f.result _ f.ensures c.requires.clean.2 refl a o
    _ (differ_words _ _ c.ne.ensures ∙ c.if-ne.false) refl _ (differ_words _ _ c.ne-2.ensures ∙ c.if-ne-2.false)
    (descended_alike (same_source o ∙ same_source a) c.descend.ensures.descended)
