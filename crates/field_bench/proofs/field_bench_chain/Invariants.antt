use Prim.Native.Nat.{◌-◌, ◌≤◌}
use Rattle.field.specs.Ext as E
use Rattle.field.specs.Element.{Is}
use Rattle.field_bench.specs.Powers.{chain}
use Rattle.field_bench.proofs.field_bench_chain.Given as goal

abbrev pub invariant-loop : goal.invariant-loop
invariant-loop l = (l.counter ≤ l.n) × Is l.y (E.ext l.b l.a l.b l.a) × Is l.x (chain l.a l.b l.counter)

abbrev pub decreases-loop : goal.decreases-loop
decreases-loop l = l.n - l.counter
