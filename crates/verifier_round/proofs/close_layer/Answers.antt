use Rattle.std.proofs.Common.{refl, ◌∙◌}
use Rattle.field.specs.ElementLaws.{differ_words}
use Rattle.stored.specs.Shapes.{claims_in}
use Rattle.transcript.proofs.Logs.{same_source}
use Rattle.verifier_round.specs.Values.{dec_claims}
use Rattle.verifier_round.proofs.Alike.{descended_alike}
use Rattle.verifier_round.proofs.Ends.{closed_go, closed_stop}
use Rattle.verifier_round.proofs.close_layer.Goals as goal

pub returns-then-ne-clause-checked : goal.returns-then-ne-clause-checked
returns-then-ne-clause-checked c =
    let expected = c.expected_claim-expected in
    closed_stop _ (dec_claims (claims_in c.args.c)) c.args.round c.args.lambda c.args.s expected.result _ expected.ensures c.requires.clean.2.claim refl
    (differ_words _ _ c.ne.ensures ∙ c.if-ne.true) c.observe_layer_claims.ensures.steps c.requires.room.1

pub returns-clause-checked : goal.returns-clause-checked
returns-clause-checked c =
    let expected = c.expected_claim-expected in
    let o = c.observe_layer_claims.ensures.steps in
    closed_go _ (dec_claims (claims_in c.args.c)) c.args.round c.args.lambda c.args.s expected.result _ _ expected.ensures c.requires.clean.2.claim refl
    (differ_words _ _ c.ne.ensures ∙ c.if-ne.false) o (descended_alike (same_source o) c.descend.ensures.descended)
