-- What a call answers and leaves, by the outcome of its checks.
-- Assumes nothing.
use Rattle.std.specs.Prelude.{Result, Ok, Err}
use Rattle.std.specs.Result.{is_err}
use mathlib.Core.Path.{◌≡◌, refl, sym, ◌∙◌, ap}
use mathlib.Core.Bool.{false, cond}
use mathlib.Core.List.{List, [], ◌++◌}
use Prim.Native.Nat.{ℕ, ◌*◌, ◌/◌}
use native.Mathlib.Omega.{arith}
use borrow.Author.Tests.{ne_eqb}
use lib.Dec.{eqb}
use lib.ListN.{length, take, drop}
use lib.Seq.{take_at}
use Rattle.field.specs.Ext as E
use Rattle.field.specs.ExtRing.{ExtRing}
use Rattle.field.specs.declared.Ext.{Ext}
use Rattle.field.specs.Element.{dec, Is}
use Rattle.field.specs.ElementLaws.{enc_of_is}
use Rattle.field.specs.Cells.{cell}
use Rattle.field.proofs.ColumnLaws.{length_flat}
use Rattle.refusal.specs.declared.Refusal.{Refusal}
use Rattle.multilinear.specs.Table as Table
use Rattle.poly.specs.Checks.{count}
use Rattle.poly.specs.Evaluations.{answer, written, InPlace}
use Rattle.poly.specs.Folds.{fold_refusal, folded_words, comes_back, is_source, fold_mle_evals}

-- an element or a refusal
pub evaluated : {o : Result (Unit {0}) Refusal} {r : Ext} (x : E.Ext) → o ≡ Ok tt → Is r x → Ok r ≡ answer o x
evaluated x e h = ap Ok (enc_of_is h) ∙ sym (ap (λ o. answer o x) e)

-- with a table
pub evaluated_table : {o : Result (Unit {0}) Refusal} {r : Ext} {t : List ℕ} (x : E.Ext) (new old : List ℕ) → o ≡ Ok tt → Is r x → t ≡ new
    → ◌≡◌ {A = InPlace} (record { answer = Ok r; table = t }) (record { answer = answer o x; table = written o new old })
evaluated_table x new old e h q = λ i. record { answer = evaluated x e h i; table = (q ∙ sym (ap (λ o. written o new old) e)) i }

-- half of the entries
pub eighth : (n : ℕ) → n / 8 ≡ n / 4 / 2
eighth n = omega arith

-- what is not refused is done
pub not_refused : (o : Result (Unit {0}) Refusal) → is_err o ≡ false → o ≡ Ok tt
not_refused (Ok u) h = refl
not_refused (Err why) h = cc

-- what a fold hands back
module _ (s d : List ℕ) (r : Ext) where
  module _ (e : fold_refusal s d r ≡ Ok tt) where
    back : fold_mle_evals s d r ≡ cond (eqb (count s) 1) s (folded_words s r)
    back = ap (λ o. written o (cond (eqb (count s) 1) s (folded_words s r)) []) e

    which : is_source s d r ≡ eqb (count s) 1
    which = ap (λ o. comes_back o (eqb (count s) 1)) e

    pub front_back : (length s ≡ 4 → ⊥) → length s ≡ 4 * count s → {l : List ℕ} (n : ℕ) → n ≡ count s / 2 → l ≡ folded_words s r ++ drop (4 * (count s / 2)) d
        → (take (4 * n) l ≡ fold_mle_evals s d r) × (is_source s d r ≡ false)
    front_back h w {l} n q f =
        let c : eqb (count s) 1 ≡ false = ne_eqb (count s) 1 (λ z. h (omega arith)) in
        let len : length (folded_words s r) ≡ 4 * n = length_flat (Table.fold ExtRing (cell s) (dec r)) (count s / 2) ∙ ap (λ k. 4 * k) (sym q) in
        (ap (take (4 * n)) f ∙ take_at (folded_words s r) (drop (4 * (count s / 2)) d) (4 * n) len ∙ sym (back ∙ ap (λ t. cond t s (folded_words s r)) c), which ∙ c)
