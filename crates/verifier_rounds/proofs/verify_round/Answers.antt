use Rattle.std.proofs.Common.{◌≡◌, ◌∙◌, arith, get_or}
use Rattle.transcript.proofs.Logs.{same_source}
use Rattle.verifier_rounds.proofs.Alike.{summed_alike}
use Rattle.verifier_rounds.proofs.RoundLaws.{round_stopped, round_closed}
use Rattle.verifier_rounds.proofs.verify_round.Goals as goal

pub returns-then-subrounds-round-clause-done : goal.returns-then-subrounds-round-clause-done
returns-then-subrounds-round-clause-done c =
    round_stopped _ _ _ c.args.claims c.args.polys c.args.round c.from-subrounds.result c.args.s _ c.from-subrounds.ensures c.if-subrounds-round.true c.requires.room.1 c.open_layer.ensures.opened

pub returns-clause-done : goal.returns-clause-done
returns-clause-done c = let e : get_or c.args.proof.now c.args.polys 0 ≡ c.args.round = omega (arith, c.from-subrounds.ensures, c.if-subrounds-round.false) in
    let o = c.open_layer.ensures.opened in
    let v = c.verify_gkr_sumcheck-last.ensures.summed in
    round_closed c.args.claims c.args.polys c.args.round c.args.s c.open_layer.result c.verify_gkr_sumcheck-last.result c.read_claims-c.result _
    e o (summed_alike (same_source o.steps) v) c.read_claims-c.ensures (same_source v.steps ∙ same_source o.steps) c.close_layer.ensures.checked
