-- The last test, a root over zero: the others are those of the sandbox, and the run is the sandbox's.
-- Assumes nothing.
use Rattle.std.specs.Prelude.{Result, Ok, Err}
use mathlib.Core.Path.{◌≡◌, refl, sym, ◌∙◌, ap, subst}
use mathlib.Core.Bool.{Bool, true, false, cond, ◌&&◌}
use Prim.Native.Nat.{ℕ}
use lib.ListN.{length, take}
use Rattle.refusal.specs.declared.Refusal.{Refusal}
use Rattle.refusal.specs.declared.Refusal.TheVariants.{ZeroRoot}
use Rattle.refusal.specs.Tests.{Tested, passed, refused, first_of}
use Rattle.refusal.specs.TestWays.{next, next_passed, first_split}
use Rattle.stored.specs.declared.Outline.{Outline}
use Rattle.verifier.specs.Verified.{Asked, Lent, rootless, tests, fronts, laid, verified}
use Rattle.verifier.specs.Companions.{in_mode}
use Rattle.verifier.specs.Gates.{root_gate, Opened, Gated}

-- THE TEST

pub and_right : (b : Bool) → (b && false) ≡ false
and_right true = refl
and_right false = refl

-- THE ORDER

module _ (a : Asked) (points logs : ℕ) where
  -- a root over zero, live
  abbrev last : Tested
  last = cond (a.modes.live && rootless a.proof a.rounds) (refused ZeroRoot) passed

  abbrev sandboxed : Tested
  sandboxed = first_of (tests (in_mode false a) points logs)

  -- the sandbox's refusal, and then the root's
  pub then_root : first_of (tests a points logs) ≡ next sandboxed last
  unfolding first_of
  then_root =
      let front = first_of (take 8 (tests a points logs)) in
      let e : sandboxed ≡ front = first_split 8 (tests (in_mode false a) points logs) ∙ next_passed front in
      first_split 8 (tests a points logs) ∙ ap (λ t. next t last) (sym e)

  pub stays_shut : (g : Result Outline Refusal) (e : Refusal) → g ≡ Err e → Gated (in_mode false a) points logs g → Gated a points logs (Err e)
  stays_shut g e q h = then_root ∙ ap (λ t. next t last) (subst (Gated (in_mode false a) points logs) q h)

  pub root_next : (o : Outline) → Opened (in_mode false a) points logs o → (g : Result Outline Refusal) → g ≡ root_gate a.modes a.proof a.rounds o → Gated a points logs g
  root_next o h g e = subst (Gated a points logs) (sym e) (go (a.modes.live && rootless a.proof a.rounds) (then_root ∙ ap (λ t. next t last) h.passes))
    where
      go : (b : Bool) → first_of (tests a points logs) ≡ cond b (refused ZeroRoot) passed → Gated a points logs (cond b (Err ZeroRoot) (Ok o))
      go true q = q
      go false q = record { passes = q; shaped = h.shaped }

  -- what is refused nowhere the sandbox does not refuse
  front_passed : (t u : Tested) → next t u ≡ passed → t ≡ passed
  front_passed passed u h = refl
  front_passed (refused e) u h = h

  pub also_sandbox : (o : Outline) → Opened a points logs o → Opened (in_mode false a) points logs o
  also_sandbox o h = record { passes = front_passed sandboxed last (sym then_root ∙ h.passes); shaped = h.shaped }

-- and the run is the sandbox's
pub run_alike : (a : Asked) (b : Lent) (o : Outline) → Opened a (length b.point) (length b.log) o → verified (in_mode false a) b ≡ verified a b
unfolding verified
run_alike a b o h =
    ap (λ t. laid (fronts (in_mode false a) t) b) (also_sandbox a (length b.point) (length b.log) o h).passes
    ∙ sym (ap (λ t. laid (fronts a t) b) h.passes)
