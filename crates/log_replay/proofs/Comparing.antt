-- Two logs compared: a log is the same as itself, and logs without a first place of difference are the same.
-- Assumes nothing.
use mathlib.Core.Path.{◌≡◌, refl, ◌∙◌, ap, ap₂}
use mathlib.Core.Bool.{Bool, true, false, cond}
use mathlib.Core.List.{List, [], ◌∷◌}
use Prim.Native.Nat.{ℕ, suc, ◌≤◌}
use native.Mathlib.Omega.{arith}
use lib.Dec.{eqb}
use borrow.Author.Tests.{eq-eqb, eqb-true}
use Rattle.refusal.specs.declared.Refusal.{Refusal}
use Rattle.refusal.specs.declared.Refusal.TheVariants.{LogMismatch, LogShort, LogLong}
use Rattle.refusal.specs.Numbers.{report_of}
use Rattle.log_replay.specs.Replayed.{same, differs, compared}

pub same_log : (l : List ℕ) (place : ℕ) → compared l l place ≡ same
unfolding compared
same_log [] place = refl
same_log (w ∷ l) place = ap (λ t. cond t (compared l l (suc place)) (differs (LogMismatch place))) (eq-eqb w w refl) ∙ same_log l (suc place)

-- 24 to 26
abbrev pub OfLog : Refusal → Type 0
OfLog e = (24 ≤ (report_of e).number) × ((report_of e).number ≤ 26)

pub no_gap : (given left : List ℕ) (place : ℕ) → ((e : Refusal) → compared given left place ≡ differs e → ¬ OfLog e) → given ≡ left
unfolding compared
no_gap [] [] place h = refl
no_gap [] (w ∷ left) place h = absurd (h (LogShort place) refl (omega arith, omega arith))
no_gap (g ∷ given) [] place h = absurd (h (LogLong place) refl (omega arith, omega arith))
no_gap (g ∷ given) (w ∷ left) place h = go (eqb g w) refl (no_gap given left (suc place))
  where
    go : (b : Bool) → eqb g w ≡ b → (((e : Refusal) → compared given left (suc place) ≡ differs e → ¬ OfLog e) → given ≡ left) → ◌≡◌ {A = List ℕ} (g ∷ given) (w ∷ left)
    go true q rest =
        ap₂ ◌∷◌ (eqb-true g w q)
        (rest (λ e d. h e (ap (λ t. cond t (compared given left (suc place)) (differs (LogMismatch place))) q ∙ d)))
    go false q rest = absurd (h (LogMismatch place) (ap (λ t. cond t (compared given left (suc place)) (differs (LogMismatch place))) q) (omega arith, omega arith))
