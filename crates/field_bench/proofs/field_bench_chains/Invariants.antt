use Prim.Native.Nat.{◌-◌, ◌≤◌}
use Rattle.field.specs.Ext as E
use Rattle.field.specs.Element.{Is}
use Rattle.field_bench.specs.Powers.{power}
use Rattle.field_bench.proofs.field_bench_chains.Given as goal

abbrev pub invariant-loop : goal.invariant-loop
invariant-loop l = (l.counter ≤ l.n) × Is l.y (E.ext l.b l.a l.b l.a) × Is l.x0 (E.mul (E.ext l.a l.b l.a l.b) (power l.a l.b l.counter)) × Is l.x1 (E.mul (E.ext l.b l.a l.a l.b) (power l.a l.b l.counter)) × Is l.x2 (E.mul (E.ext l.a l.a l.b l.b) (power l.a l.b l.counter)) × Is l.x3 (E.mul (E.ext l.b l.b l.a l.a) (power l.a l.b l.counter))

abbrev pub decreases-loop : goal.decreases-loop
decreases-loop l = l.n - l.counter
