use mathlib.Core.Path.{◌≡◌, sym, ◌∙◌}
use Prim.Native.Nat.{◌-◌}
use native.Mathlib.Omega.{arith}
use Rattle.stored.proofs.SearchLaws.{here, enter, turn, hit, hit_small, leave, finish}
use Rattle.stored.proofs.first_bad_in_entries.Goals as goal

pub bounds-proof-at : goal.bounds-proof-at
bounds-proof-at c = here _ _ _ _ _ _ c.entries.invariant.1 c.entries-test.true

pub loop-j-init : goal.loop-j-init
loop-j-init c =
    let z : c.from-subrounds.result - 0 ≡ c.from-subrounds.result = omega arith in
    (c.entries.invariant.0, rw z (enter _ _ _ _ _ _ c.entries.invariant.1 c.entries-test.true _ c.from-subrounds.ensures))

pub overflow_add-found : goal.overflow_add-found
overflow_add-found c = omega (arith, hit_small _ _ _ _ _ _ _ _ c.loop-j-test.true c.loop-j.invariant.1 _ (sym c.in-Some.is ∙ c.first_bad_stored.ensures))

pub loop-j-preserved : goal.loop-j-preserved
loop-j-preserved c = (c.loop-j.invariant.0, turn _ _ _ _ _ _ _ _ c.loop-j-test.true c.loop-j.invariant.1 (sym c.in_default.is ∙ c.first_bad_stored.ensures))

pub entries-preserved : goal.entries-preserved
entries-preserved c = (c.loop-j.invariant.0, leave _ _ _ _ _ _ _ (omega arith) c.loop-j.invariant.1)

pub returns-after-entries : goal.returns-after-entries
returns-after-entries c = c.entries.invariant.0 ∙ finish _ _ _ _ _ _ c.entries.invariant.1 c.entries-test.false

pub returns-in-Some : goal.returns-in-Some
returns-in-Some c = hit _ _ _ _ _ _ _ _ c.loop-j-test.true c.loop-j.invariant.1 _ (sym c.in-Some.is ∙ c.first_bad_stored.ensures)
