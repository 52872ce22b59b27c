use Rattle.prover_layer.proofs.Saying.{said_is}
use Rattle.prover_layer.proofs.message.message.Goals as goal

pub returns : goal.returns
returns c = let a = c.args in
    let l = c.line_values-l.ensures in
    let h = c.parabola_values-h.ensures in
    record {
      s1 = said_is a.t _ _ _ _ _ l.s1.value h.s1.value c.times.ensures;
      s2 = said_is a.t _ _ _ _ _ l.s2.value h.s2.value c.times-2.ensures;
      s3 = said_is a.t _ _ _ _ _ l.s3.value h.s3.value c.times-3.ensures;
    }
