use Rattle.field.specs.Element.{dec}
use Rattle.prover_layer.proofs.Saying.{parabola_1, parabola_steps}
use Rattle.prover_layer.proofs.message.parabola_values.Goals as goal

pub returns : goal.returns
returns c = let a = c.args in
    let e = parabola_steps (dec a.h0) (dec a.h1) (dec a.lead) c.minus-d.ensures.value c.plus-twice.ensures.value c.plus.ensures.value c.plus-s2.ensures.value c.plus-2.ensures.value c.plus-3.ensures.value c.plus-4.ensures.value in
    record {
      s1 = record { canon = c.requires.1; value = parabola_1 (dec a.h0) (dec a.h1) (dec a.lead) };
      s2 = record { canon = c.plus-s2.ensures.canon; value = e.0 };
      s3 = record { canon = c.plus-4.ensures.canon; value = e.1 };
    }
