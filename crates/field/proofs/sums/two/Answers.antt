use Rattle.field.specs.BaseRing.{of_rules}
use borrow.Author.Rules.{rules}
use Rattle.field.proofs.sums.two.Goals as goal

pub returns : goal.returns
returns c = let s = c.prod.ensures.0 in
    let t = c.prod-2.ensures.0 in
    (search rules, simp (of_rules, s, t))
