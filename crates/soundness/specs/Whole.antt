-- The whole extension field as a list, never computed: P ^ 4 distinct elements, and each element is among them.
-- Assumes nothing.
use Rattle.std.specs.Prelude.{ℕ, zero, suc, ◌*◌, ◌^◌, ◌≤◌, ◌<◌, ◌≡◌, refl, ◌⊎◌, List, [], ◌∷◌, length}
use Rattle.std.proofs.Common.{◌∙◌, ap, ap₂, subst, inl, inr, le_trans, eq-or-lt_of_le, arith}
use Rattle.std.proofs.Math.Nat.{le-suc}
use Rattle.field.specs.Base.{P, F, of}
use Rattle.field.specs.BaseRing.{of_inj, of_val, val_lt}
use Rattle.field.specs.Ext.{Ext}
use Rattle.gkr.specs.Run.{Frac}
use Rattle.soundness.specs.Few.{All, Some, Distinct}
use Rattle.soundness.specs.FewLaws.{some_map}
use Rattle.soundness.specs.Pairs.{pairs, length_pairs, some_pairs, distinct_pairs}

-- the base elements of the numbers below n
upto : ℕ → List F
upto zero = []
upto (suc n) = of n ∷ upto n

abbrev two : F → F → Frac F
two a b = record { p = a; q = b }

abbrev four : Frac F → Frac F → Ext
four a b = record { c0 = a.p; c1 = a.q; c2 = b.p; c3 = b.q }

halves : List (Frac F)
halves = pairs two (upto P) (upto P)

-- every element, by its four coordinates
pub everything : List Ext
everything = pairs four halves halves

-- THE BASE FIELD

length_upto : (n : ℕ) → length (upto n) ≡ n
unfolding upto
length_upto zero = refl
length_upto (suc n) = ap suc (length_upto n)

apart : (m n : ℕ) → n ≤ m → m < P → All (λ y. ¬ (of m ≡ y)) (upto n)
unfolding upto
apart m zero l h = tt
apart m (suc n) l h = (λ e. differ (of_inj m n h (le_trans l (le_trans (le-suc m) h)) e), apart m n (omega arith) h)
  where
    differ : m ≡ n → ⊥
    differ e = omega arith

distinct_upto : (n : ℕ) → n ≤ P → Distinct (upto n)
unfolding upto
distinct_upto zero l = tt
distinct_upto (suc n) l = (apart n n (omega arith) l, distinct_upto n (omega arith))

among : (n k : ℕ) → k < n → Some (λ y. of k ≡ y) (upto n)
unfolding upto
among zero k h = absurd (omega arith)
among (suc n) k h = go (among n k) (eq-or-lt_of_le h)
  where
    go : (k < n → Some (λ y. of k ≡ y) (upto n)) → (suc k ≡ suc n) ⊎ (suc k < suc n) → (of k ≡ of n) ⊎ Some (λ y. of k ≡ y) (upto n)
    go ih (inl e) = inl (ap of (omega arith))
    go ih (inr l) = inr (ih (omega arith))

every_base : (a : F) → Some (λ y. a ≡ y) (upto P)
every_base a = subst (λ x. Some (λ y. x ≡ y) (upto P)) (of_val a) (among P a.val (val_lt a))

-- THE EXTENSION

every_half : (a b : F) → Some (λ y. two a b ≡ y) halves
unfolding halves
every_half a b =
    some_pairs two (λ y. two a b ≡ y) (upto P) (upto P)
    (some_map (λ x. a ≡ x) _ (λ x e. some_map (λ y. b ≡ y) (λ y. two a b ≡ two x y) (λ y g i. two (e i) (g i)) (upto P) (every_base b)) (upto P) (every_base a))

-- each element is among them
pub every : (a : Ext) → Some (λ y. a ≡ y) everything
unfolding everything
every a =
    some_pairs four (λ y. a ≡ y) halves halves
    (some_map (λ x. two a.c0 a.c1 ≡ x) _
    (λ x e. some_map (λ y. two a.c2 a.c3 ≡ y) (λ y. a ≡ four x y) (λ y g i. four (e i) (g i)) halves (every_half a.c2 a.c3)) halves (every_half a.c0 a.c1))

-- all different
pub everything_distinct : Distinct everything
unfolding everything halves
everything_distinct =
    let b = distinct_upto P (omega arith) in
    let d : Distinct halves = distinct_pairs two (λ a c b e g. ap (λ x. x.p) g) (λ a c b e g. ap (λ x. x.q) g) (upto P) (upto P) b b in
    distinct_pairs four (λ a c b e g i. two (g i).c0 (g i).c1) (λ a c b e g i. two (g i).c2 (g i).c3) halves halves d d

pub everything_length : length everything ≡ P ^ 4
unfolding everything halves
everything_length =
    let n : length halves ≡ P * P = length_pairs two (upto P) (upto P) ∙ ap₂ ◌*◌ (length_upto P) (length_upto P) in
    length_pairs four halves halves ∙ ap₂ ◌*◌ n n
