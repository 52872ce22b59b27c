-- Each of so many values, how many they are, and when they are those of another function, or all elements of a list.
-- Assumes nothing.
use Rattle.std.specs.Prelude.{◌≡◌, refl, List, ◌∷◌, ℕ, zero, suc, ◌+◌, ◌≤◌, ◌<◌, length, get_or, drop}
use Rattle.std.proofs.Common.{sym, ap, ap₂, ◌∙◌, add-zero, suc-add, add-suc, not-suc-le-zero, le_of_suc-le-suc, arith, drop_of_length-le, drop-cons}
use Rattle.keccak.specs.Values.{values}

pub value_at : (f : ℕ → ℕ) (j n k : ℕ) → k < n → get_or (values f j n) k 0 ≡ f (j + k)
value_at f j zero k h = absurd (not-suc-le-zero h)
value_at f j (suc n) zero h = ap f (sym (add-zero j))
value_at f j (suc n) (suc k) h = value_at f (suc j) n k (le_of_suc-le-suc h) ∙ ap f (suc-add j k ∙ sym (add-suc j k))

pub values_length : (f : ℕ → ℕ) (j n : ℕ) → length (values f j n) ≡ n
values_length f j zero = refl
values_length f j (suc n) = ap suc (values_length f (suc j) n)

pub same_values : (f g : ℕ → ℕ) (j n : ℕ) → ((i : ℕ) → j ≤ i → i < j + n → f i ≡ g i) → values f j n ≡ values g j n
same_values f g j zero e = refl
same_values f g j (suc n) e =
    ap₂ (λ (x : ℕ) (l : List ℕ). x ∷ l) (e j (omega arith) (omega arith)) (same_values f g (suc j) n (λ i h k. e i (omega arith) (omega arith)))

-- the elements of a list from j on
pub elements : (l : List ℕ) (j n : ℕ) → length l ≡ j + n → drop j l ≡ values (λ i. get_or l i 0) j n
elements l j zero e = drop_of_length-le l {i = j} (omega arith)
elements l j (suc n) e = drop-cons l j 0 (omega arith) ∙ ap (λ (r : List ℕ). get_or l j 0 ∷ r) (elements l (suc j) n (omega arith))
