-- What holds of all, of some, and of at most k elements.
-- Assumes nothing.
use Rattle.std.specs.Prelude.{ℕ, ◌≤◌, ◌≡◌, List, [], ◌∷◌, ◌⊎◌, length}

module _ {A : Type 0} where
  -- P holds of each element of a list
  abbrev pub All : (P : A → Type 0) → List A → Type 0
  All P [] = Unit {0}
  All P (x ∷ xs) = P x × All P xs

  -- P holds of an element of a list
  abbrev pub Some : (P : A → Type 0) → List A → Type 0
  Some P [] = ⊥
  Some P (x ∷ xs) = P x ⊎ Some P xs

  -- no element stands twice in a list
  abbrev pub Distinct : List A → Type 0
  Distinct [] = Unit {0}
  Distinct (x ∷ xs) = All (λ y. ¬ (x ≡ y)) xs × Distinct xs

  -- of any distinct elements, P holds of no more than k
  abbrev pub AtMost : (k : ℕ) (P : A → Type 0) → Type 0
  AtMost k P = (xs : List A) → Distinct xs → All P xs → length xs ≤ k
