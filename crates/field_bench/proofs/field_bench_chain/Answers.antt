use mathlib.Core.Path.{◌∙◌, ap}
use Rattle.field.specs.Ext as E
use Rattle.field.specs.ElementLaws.{is_of_enc, enc_of_is}
use Rattle.field_bench.specs.Powers.{chain}
use Rattle.field_bench.proofs.Chaining.{start, next}
use mathlib.Core.Path.{◌≡◌}
use native.Mathlib.Omega.{arith}
use Rattle.field_bench.proofs.field_bench_chain.Goals as goal

pub loop-init : goal.loop-init
loop-init c = let a = c.args.a in
    let b = c.args.b in
    (omega arith, is_of_enc c.new-y.ensures, start (E.ext a b a b) (E.ext b a b a) c.new-x.ensures)

pub times-x-requires : goal.times-x-requires
times-x-requires c = (c.loop.invariant.2.canon, c.loop.invariant.1.canon)

pub loop-preserved : goal.loop-preserved
loop-preserved c = let a = c.args.a in
    let b = c.args.b in
    let h = c.loop.invariant in
    (omega arith, h.1, next (E.ext a b a b) (E.ext b a b a) c.loop.counter h.2 h.1 c.times-x.ensures)

pub returns : goal.returns
returns c = let a = c.args.a in
    let b = c.args.b in
    let n = c.args.n in
    let e : c.loop.counter ≡ n = omega arith in
    ap (λ x. x.c0) (enc_of_is c.loop.invariant.2) ∙ ap (λ i. (chain a b i).c0.val) e
