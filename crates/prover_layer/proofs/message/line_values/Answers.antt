use Rattle.field.specs.Element.{dec}
use Rattle.prover_layer.proofs.Saying.{line_steps}
use Rattle.prover_layer.proofs.message.line_values.Goals as goal

pub returns : goal.returns
returns c = let a = c.args in
    let e = line_steps (dec a.c) (dec a.x) c.times-s1.ensures.value c.plus.ensures.value c.minus-d.ensures.value c.plus-s2.ensures.value c.plus-2.ensures.value in
    record {
      s1 = record { canon = c.times-s1.ensures.canon; value = e.0 };
      s2 = record { canon = c.plus-s2.ensures.canon; value = e.1 };
      s3 = record { canon = c.plus-2.ensures.canon; value = e.2 };
    }
