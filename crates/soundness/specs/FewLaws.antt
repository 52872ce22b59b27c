-- The laws of all, some and at most k elements; and a fact that holds or else something else does.
-- Assumes nothing.
use Rattle.std.specs.Prelude.{ℕ, List, [], ◌∷◌, ◌++◌, ◌⊎◌}
use Rattle.std.proofs.Common.{inl, inr, arith}
use Rattle.soundness.specs.Few.{All, Some, AtMost}

module _ {A : Type 0} where
  pub all_map : (P Q : A → Type 0) → ((x : A) → P x → Q x) → (xs : List A) → All P xs → All Q xs
  all_map P Q f [] h = tt
  all_map P Q f (x ∷ xs) h = (f x h.0, all_map P Q f xs h.1)

  pub all_both : (P Q S : A → Type 0) → ((x : A) → P x → Q x → S x) → (xs : List A) → All P xs → All Q xs → All S xs
  all_both P Q S f [] h k = tt
  all_both P Q S f (x ∷ xs) h k = (f x h.0 k.0, all_both P Q S f xs h.1 k.1)

  pub all_append : (P : A → Type 0) (xs ys : List A) → All P xs → All P ys → All P (xs ++ ys)
  all_append P [] ys h k = k
  all_append P (x ∷ xs) ys h k = (h.0, all_append P xs ys h.1 k)

  pub all_of : (P : A → Type 0) → ((x : A) → P x) → (xs : List A) → All P xs
  all_of P f [] = tt
  all_of P f (x ∷ xs) = (f x, all_of P f xs)

  pub some_map : (P Q : A → Type 0) → ((x : A) → P x → Q x) → (xs : List A) → Some P xs → Some Q xs
  some_map P Q f [] h = h
  some_map P Q f (x ∷ xs) (inl h) = inl (f x h)
  some_map P Q f (x ∷ xs) (inr h) = inr (some_map P Q f xs h)

  pub some_left : (P : A → Type 0) (xs ys : List A) → Some P xs → Some P (xs ++ ys)
  some_left P [] ys h = absurd h
  some_left P (x ∷ xs) ys (inl h) = inl h
  some_left P (x ∷ xs) ys (inr h) = inr (some_left P xs ys h)

  pub some_right : (P : A → Type 0) (xs ys : List A) → Some P ys → Some P (xs ++ ys)
  some_right P [] ys h = h
  some_right P (x ∷ xs) ys h = inr (some_right P xs ys h)

  pub at_most_sub : (k : ℕ) (P Q : A → Type 0) → ((x : A) → Q x → P x) → AtMost k P → AtMost k Q
  at_most_sub k P Q f h xs d a = h xs d (all_map Q P f xs a)

  pub at_most_when : (k : ℕ) (N : Type 0) (P : A → Type 0) → (N → AtMost k P) → AtMost k (λ x. N × P x)
  at_most_when k N P h [] d a = omega arith
  at_most_when k N P h (x ∷ xs) d a = h a.0.0 (x ∷ xs) d (all_map (λ y. N × P y) P (λ y t. t.1) (x ∷ xs) a)

  -- what some of ys alone can spoil, and then some of xs
  pub meet : {B C : Type 0} (P : A → Type 0) (xs ys : List A) → B ⊎ Some P ys → (B → C ⊎ Some P xs) → C ⊎ Some P (xs ++ ys)
  meet P xs ys (inr s) f = inr (some_right P xs ys s)
  meet {B} {C} P xs ys (inl b) f = go (f b)
    where
      go : C ⊎ Some P xs → C ⊎ Some P (xs ++ ys)
      go (inl c) = inl c
      go (inr s) = inr (some_left P xs ys s)

-- B, and A with it, or else B without A
pub doubt : {A B N : Type 0} → Dec A → B ⊎ N → A ⊎ (((¬ A) × B) ⊎ N)
doubt (yes p) q = inl p
doubt (no p) (inl q) = inr (inl (p, q))
doubt (no p) (inr q) = inr (inr q)

-- the same, where more is known with B and wanted with A
pub doubting : {A B E N : Type 0} → Dec A → (B × E) ⊎ N → (A × E) ⊎ (((¬ A) × B) ⊎ N)
doubting (yes p) (inl q) = inl (p, q.1)
doubting (no p) (inl q) = inr (inl (p, q.0))
doubting d (inr q) = inr (inr q)

pub onto : {A B N : Type 0} → A ⊎ N → (A → B) → B ⊎ N
onto (inl a) f = inl (f a)
onto (inr n) f = inr n

pub onto_right : {A B N : Type 0} → A ⊎ N → (N → B) → A ⊎ B
onto_right (inl a) f = inl a
onto_right (inr n) f = inr (f n)
