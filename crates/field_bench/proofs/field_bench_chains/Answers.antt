use mathlib.Core.Path.{◌≡◌, ◌∙◌, ap, ap₂}
use Rattle.field.specs.Ext as E
use Rattle.field.specs.ElementLaws.{is_of_enc, answer}
use Rattle.field_bench.specs.Powers.{chains}
use Rattle.field_bench.proofs.Chaining.{start, next}
use native.Mathlib.Omega.{arith}
use Rattle.field_bench.proofs.field_bench_chains.Goals as goal

pub loop-init : goal.loop-init
loop-init c = let a = c.args.a in
    let b = c.args.b in
    (omega arith, is_of_enc c.new-y.ensures, start (E.ext a b a b) (E.ext b a b a) c.new-x0.ensures, start (E.ext b a a b) (E.ext b a b a) c.new-x1.ensures, start (E.ext a a b b) (E.ext b a b a) c.new-x2.ensures, start (E.ext b b a a) (E.ext b a b a) c.new-x3.ensures)

pub times-x0-requires : goal.times-x0-requires
times-x0-requires c = (c.loop.invariant.2.canon, c.loop.invariant.1.canon)

pub times-x1-requires : goal.times-x1-requires
times-x1-requires c = (c.loop.invariant.3.canon, c.loop.invariant.1.canon)

pub times-x2-requires : goal.times-x2-requires
times-x2-requires c = (c.loop.invariant.4.canon, c.loop.invariant.1.canon)

pub times-x3-requires : goal.times-x3-requires
times-x3-requires c = (c.loop.invariant.5.canon, c.loop.invariant.1.canon)

pub loop-preserved : goal.loop-preserved
loop-preserved c = let a = c.args.a in
    let b = c.args.b in
    let i = c.loop.counter in
    let h = c.loop.invariant in
    (omega arith, h.1, next (E.ext a b a b) (E.ext b a b a) i h.2 h.1 c.times-x0.ensures, next (E.ext b a a b) (E.ext b a b a) i h.3 h.1 c.times-x1.ensures, next (E.ext a a b b) (E.ext b a b a) i h.4 h.1 c.times-x2.ensures, next (E.ext b b a a) (E.ext b a b a) i h.5 h.1 c.times-x3.ensures)

pub plus-requires : goal.plus-requires
plus-requires c = (c.loop.invariant.2.canon, c.loop.invariant.3.canon)

pub plus-requires-2 : goal.plus-requires-2
plus-requires-2 c = (c.loop.invariant.4.canon, c.loop.invariant.5.canon)

pub returns : goal.returns
returns c = let a = c.args.a in
    let b = c.args.b in
    let n = c.args.n in
    let h = c.loop.invariant in
    let e : c.loop.counter ≡ n = omega arith in
    let left = c.plus.ensures.value ∙ ap₂ E.add h.2.value h.3.value in
    let right = c.plus-2.ensures.value ∙ ap₂ E.add h.4.value h.5.value in
    ap (λ x. x.c0) (answer c.plus-s.ensures (ap₂ E.add left right ∙ ap (chains a b) e))
