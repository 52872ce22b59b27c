use Rattle.stored.proofs.ShapeLaws.{claims_read}
use Rattle.stored.proofs.read_claims.Goals as goal

pub returns : goal.returns
returns c = claims_read c.args.proof.now c.args.at _ _ _ _ c.element_at.ensures c.element_at-2.ensures c.element_at-3.ensures c.element_at-4.ensures
