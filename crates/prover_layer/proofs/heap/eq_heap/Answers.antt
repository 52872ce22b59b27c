use borrow.Author.Rules.{rules}
use Prim.Native.Nat.{suc, ◌-◌}
use mathlib.Core.Path.{◌≡◌, refl, ◌∙◌, ap}
use Rattle.field.specs.ElementLaws.{one_is}
use Rattle.field.specs.Cells.{cell}
use Rattle.prover_layer.proofs.Weights.{double_le, pow_next}
use Rattle.prover_layer.proofs.Heaps.{heap_start, heap_next, heap_end, quarter}
use native.Mathlib.Omega.{arith}
use Rattle.prover_layer.proofs.heap.eq_heap.Goals as goal

pub overflow_add-eq : goal.overflow_add-eq
overflow_add-eq c = omega (arith, double_le 0 c.args.round c.requires.room.0)

pub store-requires : goal.store-requires
store-requires c = record { room = omega (arith, double_le 0 c.args.round c.requires.room.0); clean = search rules; canon = one_is.canon }

pub loop-i-init : goal.loop-i-init
loop-i-init c = (search rules, search rules, refl, heap_start _ _ _ _ c.store.ensures.clean (c.store.ensures.here ∙ one_is.value))

pub overflow_add-eq-in-loop-i : goal.overflow_add-eq-in-loop-i
overflow_add-eq-in-loop-i c = omega (arith, quarter c.loop-i.i c.args.round c.loop-i.n c.loop-i-test.true c.loop-i.invariant.2)

pub overflow_mul-n : goal.overflow_mul-n
overflow_mul-n c = omega (arith, quarter c.loop-i.i c.args.round c.loop-i.n c.loop-i-test.true c.loop-i.invariant.2)

pub overflow_add-eq-in-loop-i-2 : goal.overflow_add-eq-in-loop-i-2
overflow_add-eq-in-loop-i-2 c = omega (arith, quarter c.loop-i.i c.args.round c.loop-i.n c.loop-i-test.true c.loop-i.invariant.2)

pub grow_level-requires : goal.grow_level-requires
grow_level-requires c = record { room = (omega arith, omega (arith, quarter c.loop-i.i c.args.round c.loop-i.n c.loop-i-test.true c.loop-i.invariant.2)); clean = (c.loop-i.invariant.3.clean, c.load.ensures.canon) }

pub overflow_mul-n-in-loop-i : goal.overflow_mul-n-in-loop-i
overflow_mul-n-in-loop-i c = omega (arith, quarter c.loop-i.i c.args.round c.loop-i.n c.loop-i-test.true c.loop-i.invariant.2)

pub loop-i-preserved : goal.loop-i-preserved
loop-i-preserved c = let k = c.args.round in
    let l = c.loop-i in
    let q : k - 1 - l.i ≡ k - suc l.i = omega arith in
    (search rules, search rules, pow_next l.n l.i l.invariant.2, heap_next _ l.work _ c.args.xi.now _ k l.i l.n _ (omega arith) l.invariant.2 (c.load.ensures.value ∙ ap (cell c.args.xi.now) q) l.invariant.3 c.grow_level.ensures)

pub returns : goal.returns
returns c = let l = c.loop-i in
    let e : suc l.i ≡ c.args.round = omega arith in
    heap_end _ _ _ _ _ _ l.i _ c.requires.room.0 e c.store.ensures l.invariant.3
