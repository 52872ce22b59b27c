-- Done in live mode the sum is not over zero; and live mode gives 7 exactly where it is and 1 to 6 do not apply.
-- Assumes nothing.
use mathlib.Core.Path.{◌≡◌, refl, sym, ◌∙◌, ap}
use mathlib.Core.Bool.{true, false}
use mathlib.Core.List.{List}
use mathlib.Core.Logic.{◌⊎◌, inl, inr}
use Prim.Native.Nat.{ℕ, ◌^◌}
use Rattle.std.specs.Prelude.{Err}
use Rattle.field.specs.Ext as E
use Rattle.field.specs.Element.{dec}
use Rattle.field.specs.ElementLaws.{dec_enc}
use Rattle.domain.proofs.Extension.{one_not_nil}
use Rattle.step.specs.declared.Frac.{Frac}
use Rattle.refusal.specs.Tests.{Tested, passed, refused}
use Rattle.refusal.specs.declared.Refusal.TheVariants.{ZeroDenominator}
use Rattle.sizes.specs.Sizes.{row_count}
use Rattle.prover_gate.specs.declared.Rooms.{Rooms}
use Rattle.prover_gate.specs.Refusals.{Call, first_refusal}
use Rattle.prover.specs.Proved.{rooms_of, entered, fronts, proved, summed}
use Rattle.prover.specs.Companions.{in_mode, Sound, Lowest}
use Rattle.prover.proofs.Modes.{live_mode}
use Rattle.prover.proofs.Theorems.{done_refused}
use Rattle.roots.specs.Roots.{OverZero, LiveRoot, Seven}
use Rattle.roots.proofs.Rows.{lowest_or_sound, sound_sum, lowest_sum}
use Rattle.roots.proofs.Sums.{Told, done_sum}

module _ (c : Call) (r : Rooms) where
  -- a row over zero is refused in live mode, if not by 7 then before
  live_sound : (n : ℕ) (s : Frac) → (fronts (in_mode true c) r).answer ≡ summed n s → Sound c.rows
  live_sound n s d = go (lowest_or_sound c.rows)
    where
      refuses : (i : ℕ) → Lowest c.rows i → (t : Tested) → first_refusal (in_mode false c) r ≡ t → ⊥
      refuses i l passed h = done_refused n s (ZeroDenominator i) (sym d ∙ ap (λ o. o.answer) ((live_mode c r).lowest i l h))
      refuses i l (refused e) h = done_refused n s e (sym d ∙ ap (λ o. o.answer) ((live_mode c r).earlier e h))

      go : ((i : ℕ) × Lowest c.rows i) ⊎ Sound c.rows → Sound c.rows
      go (inl l) = absurd (refuses l.0 l.1 (first_refusal (in_mode false c) r) refl)
      go (inr h) = h

  -- SEVEN: the sandbox takes the sheet, and the sum is over zero

  sandbox_passes : (t : Tested) → first_refusal (in_mode false c) r ≡ t → (i : ℕ) → (fronts (in_mode true c) r).answer ≡ Err (ZeroDenominator i) → t ≡ passed
  unfolding fronts
  sandbox_passes passed h i e = refl
  sandbox_passes (refused x) h i e =
      absurd ((live_mode c r).sandbox i (ap (λ t. (entered (in_mode false c) t).answer) h ∙ sym (ap (λ o. o.answer) ((live_mode c r).earlier x h)) ∙ e))

  module _ (n : ℕ) (size : row_count c.rows ≡ 2 ^ n) where
    to_sum : (i : ℕ) → (fronts (in_mode true c) r).answer ≡ Err (ZeroDenominator i) → ((i : ℕ) × Lowest c.rows i) ⊎ Sound c.rows → OverZero c.rows n
    to_sum i e (inl l) = lowest_sum c.rows n size l.0 l.1
    to_sum i e (inr s) = absurd ((live_mode c r).sandbox i (sym (ap (λ o. o.answer) ((live_mode c r).equal s)) ∙ e))

    from_sum : first_refusal (in_mode false c) r ≡ passed → OverZero c.rows n → ((i : ℕ) × Lowest c.rows i) ⊎ Sound c.rows
        → (i : ℕ) × ((fronts (in_mode true c) r).answer ≡ Err (ZeroDenominator i))
    from_sum h z (inl l) = (l.0, ap (λ o. o.answer) ((live_mode c r).lowest l.0 l.1 h))
    from_sum h z (inr s) = absurd (sound_sum c.rows n size s z)

pub seven : Seven
seven c r n size = (
  λ e. (sandbox_passes c r (first_refusal (in_mode false c) r) refl e.0 e.1, to_sum c r n size e.0 e.1 (lowest_or_sound c.rows)),
  λ e. from_sum c r n size e.0 e.1 (lowest_or_sound c.rows),
)

-- DONE

sum_told : (rows : List ℕ) (n : ℕ) (s : Frac) → Sound rows → Told rows n s → ¬ (dec s.q ≡ E.nil)
sum_told rows n s h (inl e) z = one_not_nil (sym (dec_enc E.one) ∙ sym (ap (λ x. dec x.q) e) ∙ z)
sum_told rows n s h (inr t) z = sound_sum rows n t.0 h (sym (dec_enc _) ∙ sym (ap (λ x. dec x.q) t.1) ∙ z)

pub live_root : LiveRoot
unfolding proved
live_root c b n s d =
    let h = live_sound c (rooms_of b) n s d in
    (h, sum_told c.rows n s h (done_sum (in_mode true c) (rooms_of b) n s d))
