-- Counting: how many sequences of elements pass a test.
-- Assumes nothing.
use Rattle.std.specs.Prelude.{ℕ, zero, suc, ◌+◌, Bool, true, false, cond, List, [], ◌∷◌}

module _ {A : Type 0} where
  -- f x, added up over a list
  unfoldable pub sum_over : (f : A → ℕ) → List A → ℕ
  sum_over f [] = 0
  sum_over f (x ∷ xs) = f x + sum_over f xs

  -- how many sequences of n elements of X pass the test p
  unfoldable pub tally : (X : List A) (n : ℕ) (p : List A → Bool) → ℕ
  tally X zero p = cond (p []) 1 0
  tally X (suc n) p = sum_over (λ x. tally X n (λ xs. p (x ∷ xs))) X

-- a decision as a test
unfoldable pub test : {A : Type 0} → Dec A → Bool
test (yes a) = true
test (no a) = false
