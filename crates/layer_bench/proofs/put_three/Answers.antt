use mathlib.Core.Path.{◌∙◌}
use native.Mathlib.Omega.{arith}
use Rattle.layer_bench.proofs.put_three.Goals as goal

pub returns : goal.returns
returns c = let s = c.store.ensures in
    let t = c.store-2.ensures in
    let u = c.store-3.ensures in
    record {
      clean = u.clean;
      first = u.rest 0 (λ h. omega arith) ∙ t.rest 0 (λ h. omega arith) ∙ s.here;
      second = u.rest 1 (λ h. omega arith) ∙ t.here;
      third = u.here;
      rest = λ j h. u.rest j (λ q. omega (arith, h, q)) ∙ t.rest j (λ q. omega (arith, h, q)) ∙ s.rest j (λ q. omega (arith, h, q));
    }
