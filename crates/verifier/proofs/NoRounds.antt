-- No rounds, where that is valid: what is answered; and of one round or more the mode says nothing.
-- Assumes nothing.
use Rattle.std.specs.Prelude.{Result, Ok, Err}
use mathlib.Core.Path.{◌≡◌, refl, sym, ◌∙◌, ap}
use mathlib.Core.Bool.{Bool, true, false, not, false≢true}
use mathlib.Core.List.{List}
use Prim.Native.Nat.{ℕ}
use native.Mathlib.Omega.{arith}
use borrow.Author.Tests.{eq-eqb, ne_eqb}
use lib.Dec.{eqb}
use lib.ListN.{length, drop}
use Rattle.field.specs.Ext as E
use Rattle.field.specs.declared.Ext.{Ext}
use Rattle.field.specs.Element.{dec, enc}
use Rattle.field.specs.ElementLaws.{enc_dec}
use Rattle.gkr.specs.Tests.{pass}
use Rattle.transcript.specs.Used.{unused}
use Rattle.refusal.specs.declared.Refusal.TheVariants.{IncorrectLayerCount, IncorrectSumcheckPolyCount, InvalidZeroRoundValue, ZeroRounds}
use Rattle.refusal.specs.Tests.{Tested, passed, refused, first_of}
use Rattle.refusal.specs.TestLaws.{all_passed}
use Rattle.refusal.specs.TestWays.{met_at, each_way}
use Rattle.wire.specs.Bytes.{elem}
use Rattle.stored.specs.declared.Outline.{Outline}
use Rattle.stored.proofs.ReadWords.{proof_q0}
use Rattle.stored.specs.Parse.{count_of_layers, count_of_entries, proof_of}
use Rattle.verifier_round.specs.declared.Claims.{Claims}
use Rattle.refusal.specs.declared.Refusal.{Refusal}
use Rattle.verifier.specs.Verified.{Asked, Lent, outcome, tests, empty_tests, emptied, fronts, laid, verified}
use Rattle.verifier.specs.declared.Ending.{Ending}
use Rattle.verifier.specs.Gates.{Opened, ReadyEmpty, ending}
use Rattle.verifier.specs.Companions.{in_mode, emptied_mode, EmptyVerifying}
use Rattle.verifier.proofs.GateLaws.{passes}
use Rattle.verifier.proofs.RootLaws.{and_right, also_sandbox, run_alike}
use Rattle.verifier.proofs.Answers.{unlike, not_by_run}

-- NO ROUNDS

module _ (bs : List ℕ) (o : Outline) (r : ReadyEmpty bs o) where
  abbrev answer : Result Claims Refusal
  answer = emptied (first_of (empty_tests bs))

  pub layers_there : (o.layers ≡ 0 → ⊥) → Err (IncorrectLayerCount 0 o.layers) ≡ answer
  layers_there h =
      let e = r.shaped.layers in
      (λ i. Err (IncorrectLayerCount 0 (e i))) ∙ sym (ap emptied (met_at (empty_tests bs) 0 _ (ap not (ne_eqb (count_of_layers bs) 0 (λ q. h (e ∙ q))), refl)))

  module _ (h1 : o.layers ≡ 0) where
    no_layers : not (eqb (count_of_layers bs) 0) ≡ false
    no_layers = ap not (eq-eqb (count_of_layers bs) 0 (sym r.shaped.layers ∙ h1))

    pub entries_there : (o.entries ≡ 0 → ⊥) → Err (IncorrectSumcheckPolyCount 0 o.entries) ≡ answer
    entries_there h =
        let e = r.shaped.entries in
        (λ i. Err (IncorrectSumcheckPolyCount 0 (e i)))
        ∙ sym (ap emptied (met_at (empty_tests bs) 1 _ (no_layers, (ap not (ne_eqb (count_of_entries bs) 0 (λ q. h (e ∙ q))), refl))))

    module _ (h2 : o.entries ≡ 0) (q : Ext) (qe : q ≡ elem (drop 5 bs)) (x : Bool) (xe : x ≡ E.same (dec q) E.one) where
      abbrev same : Bool
      same = E.same (dec (elem (drop 5 bs))) E.one

      same_is : same ≡ x
      same_is = sym (xe ∙ ap (λ w. E.same (dec w) E.one) qe)

      no_entries : not (eqb (count_of_entries bs) 0) ≡ false
      no_entries = ap not (eq-eqb (count_of_entries bs) 0 (sym r.shaped.entries ∙ h2))

      pub not_one : not x ≡ true → Err (InvalidZeroRoundValue q) ≡ answer
      not_one h =
          (λ i. Err (InvalidZeroRoundValue ((qe ∙ sym (enc_dec (proof_q0 (proof_of bs) r.canon))) i)))
          ∙ sym (ap emptied (met_at (empty_tests bs) 2 _ (no_layers, (no_entries, (ap not same_is ∙ h, refl)))))

      pub is_one : not x ≡ false → Ok (record { numer = enc E.nil; denom = enc E.one }) ≡ answer
      is_one h = sym (ap emptied (all_passed (empty_tests bs) (no_layers, (no_entries, (ap not same_is ∙ h, tt)))))

pub ready_empty : (a : Asked) (points logs : ℕ) (o : Outline) → Opened a points logs o → ReadyEmpty a.proof o
ready_empty a points logs o h = record { shaped = h.shaped; canon = (passes h).canon }

-- nothing is written
pub empty_is : (a : Asked) (b : Lent) (o : Outline) → Opened a (length b.point) (length b.log) o → a.rounds ≡ 0 → (v : Result Claims Refusal) (x : Ending) → v ≡ emptied (first_of (empty_tests a.proof)) → x ≡ ending v unused
    → outcome x.verdict x.used b.point b.log ≡ verified a b
unfolding verified
empty_is a b o h z v x e y =
    ap (λ (w : Ending). outcome w.verdict w.used b.point b.log) (y ∙ ap (λ w. ending w unused) e) ∙ ap (λ f. laid f b) (sym (pass (eqb a.rounds 0) _ _ (eq-eqb a.rounds 0 z)))
    ∙ ap (λ t. laid (fronts a t) b) (sym h.passes)

-- ONE ROUND OR MORE

module _ (a : Asked) (some : a.rounds ≡ 0 → ⊥) where
  first_alike : (points logs : ℕ) (e e' : Bool) → first_of (tests (emptied_mode e a) points logs) ≡ first_of (tests (emptied_mode e' a) points logs)
  unfolding first_of
  first_alike points logs e e' = rw (ne_eqb a.rounds 0 some)

  fronts_alike : (e e' : Bool) (t : Tested) → fronts (emptied_mode e a) t ≡ fronts (emptied_mode e' a) t
  fronts_alike e e' passed = refl
  fronts_alike e e' (refused r) = refl

  pub all_alike : (b : Lent) (e e' : Bool) → verified (emptied_mode e a) b ≡ verified (emptied_mode e' a) b
  unfolding verified
  all_alike b e e' =
      ap (λ t. laid (fronts (emptied_mode e a) t) b) (first_alike (length b.point) (length b.log) e e')
      ∙ ap (λ f. laid f b) (fronts_alike e e' (first_of (tests (emptied_mode e' a) (length b.point) (length b.log))))

-- the run looks at drawn alone
module _ (a : Asked) (b : Lent) (o : Outline) (some : a.rounds ≡ 0 → ⊥) (h : Opened a (length b.point) (length b.log) o) where
  pub also_run : Opened (emptied_mode false (in_mode false a)) (length b.point) (length b.log) o
  also_run =
      let g = also_sandbox a (length b.point) (length b.log) o h in
      record { passes = first_alike (in_mode false a) some (length b.point) (length b.log) false a.modes.empty ∙ g.passes; shaped = h.shaped }

  pub run_same : verified (emptied_mode false (in_mode false a)) b ≡ verified a b
  run_same = all_alike (in_mode false a) some b false a.modes.empty ∙ run_alike a b o h

-- THE MODE

module _ (a : Asked) (b : Lent) where
  old_refuses : a.rounds ≡ 0 → verified (emptied_mode false a) b ≡ outcome (Err ZeroRounds) unused b.point b.log
  unfolding verified first_of
  old_refuses h = rw (eq-eqb a.rounds 0 h)

  -- 10 is given by no test but its own, which is not met, nor past them
  never_ten : ¬ ((verified (emptied_mode true a) b).answer ≡ Err ZeroRounds)
  unfolding verified
  never_ten =
      let c = emptied_mode true a in
      each_way (λ t. ¬ ((fronts c t).answer ≡ Err ZeroRounds)) (tests c (length b.point) (length b.log)) (
        λ m. absurd (false≢true (sym (and_right (eqb a.rounds 0)) ∙ m)),
        λ u1. (
          λ m. unlike _ ZeroRounds refl,
          λ u2. (
            λ m. unlike _ ZeroRounds refl,
            λ u3. (
              λ m. unlike _ ZeroRounds refl,
              λ u4. (
                λ m. unlike _ ZeroRounds refl,
                λ u5. (
                  λ m. unlike _ ZeroRounds refl,
                  λ u6. (
                    λ m. unlike _ ZeroRounds refl,
                    λ u7. (
                      λ m. unlike _ ZeroRounds refl,
                      λ u8. (λ m. unlike _ ZeroRounds refl, λ u9. not_by_run c ZeroRounds refl),
                    ),
                  ),
                ),
              ),
            ),
          ),
        ),
      )

  nothing_written : a.rounds ≡ 0 → (t : Tested) → (laid (fronts (emptied_mode true a) t) b).buffers ≡ b
  nothing_written h (refused r) = refl
  nothing_written h passed = ap (λ f. (laid f b).buffers) (pass (eqb a.rounds 0) _ _ (eq-eqb a.rounds 0 h))

  pub empty_verifying : EmptyVerifying a b
  unfolding verified
  empty_verifying =
      record {
        equal = λ h. all_alike a (λ z. omega arith) b true false;
        old = old_refuses;
        never = never_ten;
        nothing = λ h. nothing_written h (first_of (tests (emptied_mode true a) (length b.point) (length b.log)));
      }
