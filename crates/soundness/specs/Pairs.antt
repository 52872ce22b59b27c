-- All pairs out of two lists: how many there are, that they are distinct, and that none is missing.
-- Assumes nothing.
use Prim.Native.Nat.{◌+◌, ◌*◌}
use Rattle.std.specs.Prelude.{◌≡◌, length}
use Rattle.std.proofs.Common.{◌∙◌, inl, inr}
use Rattle.std.proofs.Math.Path.{ap₂}
use mathlib.Core.List.{List, [], ◌∷◌, ◌++◌, map}
use native.Mathlib.Omega.{arith}
use Rattle.std.proofs.Math.ListN.{length-append}
use Rattle.std.proofs.lemmas.List.{length-map}
use Rattle.soundness.specs.Few.{All, Some, Distinct}
use Rattle.soundness.specs.FewLaws.{all_map, all_append, all_of, some_left, some_right}

-- f at each of xs and each of ys
unfoldable pub pairs : {A B C : Type 0} (f : A → B → C) → List A → List B → List C
pairs f [] ys = []
pairs f (x ∷ xs) ys = map (f x) ys ++ pairs f xs ys

distinct_append : {A : Type 0} (xs ys : List A) → Distinct xs → Distinct ys → All (λ x. All (λ y. ¬ (x ≡ y)) ys) xs → Distinct (xs ++ ys)
distinct_append [] ys d e h = e
distinct_append (x ∷ xs) ys d e h = (all_append _ xs ys d.0 h.0, distinct_append xs ys d.1 e h.1)

module _ {A B C : Type 0} (f : A → B → C) where
  all_image : (Q : C → Type 0) (a : A) (ys : List B) → All (λ y. Q (f a y)) ys → All Q (map (f a) ys)
  all_image Q a [] h = tt
  all_image Q a (y ∷ ys) h = (h.0, all_image Q a ys h.1)

  some_image : (Q : C → Type 0) (a : A) (ys : List B) → Some (λ y. Q (f a y)) ys → Some Q (map (f a) ys)
  some_image Q a [] h = h
  some_image Q a (y ∷ ys) (inl h) = inl h
  some_image Q a (y ∷ ys) (inr h) = inr (some_image Q a ys h)

  pub length_pairs : (xs : List A) (ys : List B) → length (pairs f xs ys) ≡ length xs * length ys
  unfolding pairs
  length_pairs [] ys = omega arith
  length_pairs (x ∷ xs) ys = length-append (map (f x) ys) (pairs f xs ys) ∙ ap₂ ◌+◌ (length-map ys (f x)) (length_pairs xs ys) ∙ omega arith

  all_pairs : (Q : C → Type 0) (xs : List A) (ys : List B) → All (λ x. All (λ y. Q (f x y)) ys) xs → All Q (pairs f xs ys)
  unfolding pairs
  all_pairs Q [] ys h = tt
  all_pairs Q (x ∷ xs) ys h = all_append Q (map (f x) ys) (pairs f xs ys) (all_image Q x ys h.0) (all_pairs Q xs ys h.1)

  pub some_pairs : (Q : C → Type 0) (xs : List A) (ys : List B) → Some (λ x. Some (λ y. Q (f x y)) ys) xs → Some Q (pairs f xs ys)
  unfolding pairs
  some_pairs Q [] ys h = h
  some_pairs Q (x ∷ xs) ys (inl h) = some_left Q (map (f x) ys) (pairs f xs ys) (some_image Q x ys h)
  some_pairs Q (x ∷ xs) ys (inr h) = some_right Q (map (f x) ys) (pairs f xs ys) (some_pairs Q xs ys h)

  module _ (left : (a c : A) (b d : B) → f a b ≡ f c d → a ≡ c) (right : (a c : A) (b d : B) → f a b ≡ f c d → b ≡ d) where
    distinct_image : (a : A) (ys : List B) → Distinct ys → Distinct (map (f a) ys)
    distinct_image a [] d = tt
    distinct_image a (y ∷ ys) d =
        (all_image (λ c. ¬ (f a y ≡ c)) a ys (all_map (λ z. ¬ (y ≡ z)) (λ z. ¬ (f a y ≡ f a z)) (λ z n e. n (right a a y z e)) ys d.0), distinct_image a ys d.1)

    pub distinct_pairs : (xs : List A) (ys : List B) → Distinct xs → Distinct ys → Distinct (pairs f xs ys)
    unfolding pairs
    distinct_pairs [] ys d e = tt
    distinct_pairs (x ∷ xs) ys d e =
        distinct_append (map (f x) ys) (pairs f xs ys) (distinct_image x ys e) (distinct_pairs xs ys d.1 e)
        (all_image (λ c. All (λ z. ¬ (c ≡ z)) (pairs f xs ys)) x ys
        (all_of _ (λ y. all_pairs (λ z. ¬ (f x y ≡ z)) xs ys (all_map (λ w. ¬ (x ≡ w)) _ (λ w n. all_of (λ z. ¬ (f x y ≡ f w z)) (λ z g. n (left x w y z g)) ys) xs d.0)) ys))
