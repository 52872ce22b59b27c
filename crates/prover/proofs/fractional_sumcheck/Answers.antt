use Rattle.prover.proofs.Answering.{proved_shut, gate_told, proved_open}
use Rattle.prover.proofs.fractional_sumcheck.Goals as goal

pub admitted-requires : goal.admitted-requires
admitted-requires c = gate_told _ _ c.first_refusal.ensures c.in-Ok.is

pub returns-in-Ok : goal.returns-in-Ok
returns-in-Ok c = proved_open _ _ c.first_refusal.ensures c.in-Ok.is c.admitted.ensures

pub returns-in-Err : goal.returns-in-Err
returns-in-Err c = proved_shut _ _ c.first_refusal.ensures c.in-Err.is c.refuse.ensures
