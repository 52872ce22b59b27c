use mathlib.Core.Path.{◌∙◌}
use Rattle.field.specs.Base.{of}
use Rattle.field.specs.Ext as E
use Rattle.field.proofs.Residues.{is_four, coord0_by, coord1_by, coord2_by}
use Rattle.field.proofs.Ext.times_plus.Goals as goal

pub returns : goal.returns
unfolding E.ext E.add E.mul
returns c = let a = c.args.self in
    let b = c.args.other in
    let d = c.args.c in
    let x = c.eleven-e1.ensures.1 in
    let y = c.eleven-e2.ensures.1 in
    let z = c.eleven-e3.ensures.1 in
    let r0 = c.dot.ensures in
    let r1 = c.dot-2.ensures in
    let r2 = c.dot-3.ensures in
    is_four (r0.0, r0.1 ∙ coord0_by E.eleven (of a.c0) (of a.c1) (of a.c2) (of a.c3) (of b.c0) (of b.c1) (of b.c2) (of b.c3) (of d.c0) x y z) (r1.0, r1.1 ∙ coord1_by E.eleven (of a.c0) (of a.c1) (of a.c2) (of a.c3) (of b.c0) (of b.c1) (of b.c2) (of b.c3) (of d.c1) y z) (r2.0, r2.1 ∙ coord2_by E.eleven (of a.c0) (of a.c1) (of a.c2) (of a.c3) (of b.c0) (of b.c1) (of b.c2) (of b.c3) (of d.c2) z) c.dot-4.ensures
