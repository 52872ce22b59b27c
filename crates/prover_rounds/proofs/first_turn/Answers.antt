use Rattle.field.specs.ElementLaws.{is_eq, one_is}
use Rattle.field.specs.Element.{dec}
use Rattle.field.specs.Ext as E
use mathlib.Core.Path.{ap₂}
use Rattle.prover_rounds.proofs.first_turn.Goals as goal

pub returns : goal.returns
returns c = let l = c.load_node-l.ensures in
    let r = c.load_node-r.ensures in
    let m = dec c.args.lambda in
    record {
      c = one_is;
      x = c.load.ensures;
      h0 = is_eq c.times_plus.ensures (ap₂ (λ q p. E.add (E.mul q m) p) l.q.value l.p.value);
      h1 = is_eq c.times_plus-2.ensures (ap₂ (λ q p. E.add (E.mul q m) p) r.q.value r.p.value);
    }
