use mathlib.Core.Path.{refl}
use Rattle.step.proofs.weigh_entry.Goals as goal

pub returns : goal.returns
returns c = let t = c.requires.0 in
    record {
      e = record { canon = t.e; value = refl };
      l = record { p = record { canon = t.l.p; value = refl }; q = record { canon = t.l.q; value = refl } };
      r = record { p = c.times_plus-p.ensures; q = record { canon = t.r.q; value = refl } };
    }
