-- Live mode differs from sandbox only by 27: where the sandbox refuses nothing before its run, of one round or more, both counts are right and q0 is zero.
-- Assumes nothing.
use Rattle.std.specs.Prelude.{Err}
use mathlib.Core.Path.{◌≡◌, refl, sym, ◌∙◌, ap, ap₂}
use mathlib.Core.Bool.{Bool, true, false, cond, not, ◌&&◌, and-eq-true_iff, false≢true}
use Prim.Native.Nat.{ℕ, ◌-◌}
use native.Mathlib.Omega.{arith}
use borrow.Author.Tests.{eq-eqb, ne_eqb, eqb-true, eqb-false, not-true, not-false}
use lib.Dec.{eqb}
use lib.ListN.{length}
use Rattle.field.specs.Ext as E
use Rattle.field.specs.ExtRing.{same_of}
use Rattle.refusal.specs.declared.Refusal.{Refusal}
use Rattle.refusal.specs.declared.Refusal.TheVariants.{ZeroRoot}
use Rattle.refusal.specs.Tests.{Tested, passed, refused, first_of}
use Rattle.refusal.specs.TestLaws.{passed_all}
use Rattle.refusal.specs.TestWays.{next, each_way}
use Rattle.stored.specs.Parse.{count_of_layers, count_of_entries}
use Rattle.stored.specs.ParseLaws.{fits_reads}
use Rattle.stored.specs.Elements.{over_zero}
use Rattle.stored.proofs.ElementLaws.{root_there, root_nil}
use Rattle.verifier.specs.Verified.{Asked, Lent, counted, rootless, tests, fronts, laid, verified}
use Rattle.verifier.specs.Companions.{in_mode, ZeroRooted, LiveVerifying}
use Rattle.verifier.proofs.Answers.{unlike, not_by_run}
use Rattle.verifier.proofs.RootLaws.{then_root}

passed_not : (e : Refusal) → refused e ≡ passed → ⊥
passed_not e h = let z : ◌≡◌ {A = ℕ} 0 1 = cc in omega arith

module _ (a : Asked) (b : Lent) where
  abbrev points : ℕ
  points = length b.point

  abbrev logs : ℕ
  logs = length b.log

  -- the sandbox's refusal before its run
  abbrev front : Tested
  front = first_of (tests (in_mode false a) points logs)

  abbrev Fine : Tested → Type 0
  Fine t = ¬ ((fronts (in_mode false a) t).answer ≡ Err ZeroRoot)

  not_in_sandbox : Fine front
  not_in_sandbox =
      each_way Fine (tests (in_mode false a) points logs) (
        λ m. unlike _ ZeroRoot refl,
        λ u1. (
          λ m. unlike _ ZeroRoot refl,
          λ u2. (
            λ m. unlike _ ZeroRoot refl,
            λ u3. (
              λ m. unlike _ ZeroRoot refl,
              λ u4. (
                λ m. unlike _ ZeroRoot refl,
                λ u5. (
                  λ m. unlike _ ZeroRoot refl,
                  λ u6. (
                    λ m. unlike _ ZeroRoot refl,
                    λ u7. (
                      λ m. unlike _ ZeroRoot refl,
                      λ u8.
                          (λ m. absurd (false≢true m), λ u9. not_by_run (in_mode false a) ZeroRoot refl),
                    ),
                  ),
                ),
              ),
            ),
          ),
        ),
      )

  -- THE TWO MODES

  abbrev root : Bool
  root = rootless a.proof a.rounds

  rooted : root ≡ true → ZeroRooted a
  rooted h =
      let w = (and-eq-true_iff (not (eqb a.rounds 0)) (counted a.proof a.rounds && over_zero a.proof)).0 h in
      let x = (and-eq-true_iff (counted a.proof a.rounds) (over_zero a.proof)).0 w.1 in
      let y = (and-eq-true_iff (eqb (count_of_layers a.proof) a.rounds) (eqb (count_of_entries a.proof) (a.rounds - 1))).0 x.0 in
      record { some = omega (arith, eqb-false a.rounds 0 (not-true _ w.0)); layers = eqb-true _ _ y.0; entries = eqb-true _ _ y.1; q0 = root_nil a.proof x.1 }

  root_of : front ≡ passed → ZeroRooted a → root ≡ true
  root_of p r =
      let m = passed_all (tests (in_mode false a) points logs) p in
      let s = fits_reads a.proof (not-false _ m.1.1.1.0) (not-false _ m.1.1.1.1.1.0) in
      let z = root_there a.proof (omega (arith, s.room)) ∙ same_of _ E.nil r.q0 in
      rw (ne_eqb a.rounds 0 (λ e. omega (arith, r.some)), eq-eqb _ _ r.layers, eq-eqb _ _ r.entries) z

  mode_free : (t : Tested) → fronts (in_mode true a) t ≡ fronts (in_mode false a) t
  mode_free passed = refl
  mode_free (refused e) = refl

  shut : front ≡ passed → root ≡ true → (verified (in_mode true a) b).answer ≡ Err ZeroRoot
  unfolding verified
  shut p z = ap (λ t. (fronts (in_mode true a) t).answer) (then_root (in_mode true a) points logs ∙ ap₂ (λ t r. next t (cond r (refused ZeroRoot) passed)) p z)

  alike : (t : Tested) (z : Bool) → front ≡ t → root ≡ z → (t ≡ passed → z ≡ true → ⊥) → verified (in_mode true a) b ≡ verified (in_mode false a) b
  unfolding verified
  alike t z p q h =
      ap (λ w. laid (fronts (in_mode true a) w) b) (then_root (in_mode true a) points logs ∙ ap₂ (λ w r. next w (cond r (refused ZeroRoot) passed)) p q ∙ front_only t z h ∙ sym p)
      ∙ ap (λ f. laid f b) (mode_free front)
    where
      front_only : (t : Tested) (z : Bool) → (t ≡ passed → z ≡ true → ⊥) → next t (cond z (refused ZeroRoot) passed) ≡ t
      front_only (refused e) z h = refl
      front_only passed true h = absurd (h refl refl)
      front_only passed false h = refl

  sandbox_never : ¬ ((verified (in_mode false a) b).answer ≡ Err ZeroRoot)
  unfolding verified
  sandbox_never = not_in_sandbox

  from_answer : (verified (in_mode true a) b).answer ≡ Err ZeroRoot → (t : Tested) (z : Bool) → front ≡ t → root ≡ z → (front ≡ passed) × ZeroRooted a
  from_answer h passed true p q = (p, rooted q)
  from_answer h passed false p q = absurd (sandbox_never (sym (ap (λ o. o.answer) (alike passed false p q (λ _ e. false≢true e))) ∙ h))
  from_answer h (refused e) z p q = absurd (sandbox_never (sym (ap (λ o. o.answer) (alike (refused e) z p q (λ f _. passed_not e f))) ∙ h))

  pub live_verifying : LiveVerifying a b
  live_verifying =
      record {
        equal = λ h. alike front root refl refl (λ p z. h (shut p z));
        given = (λ h. from_answer h front root refl refl, λ k. shut k.0 (root_of k.0 k.1));
        sandbox = sandbox_never;
      }
