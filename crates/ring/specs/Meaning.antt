-- The meaning of a sum of monomials, and that sums, opposites and products of them keep it.
-- Assumes nothing.
use Prim.Native.Nat.{ℕ, ◌≤◌, compare, Ordering}
use Rattle.std.specs.Prelude.{◌+◌ as ◌+ℕ◌, ◌*◌ as ◌*ℕ◌, ◌≡◌, List}
use Rattle.std.proofs.Math.Path.{sym, ap, ap₂}
use Rattle.std.proofs.Common.{◌∙◌}
use native.Mathlib.Omega.{arith}
use Rattle.ring.specs.Ring.{CommRing, num}
use Rattle.ring.specs.RingLaws.{nil_add, add_mul, add_left_comm, add_swap, mul_swap, neg_neg, neg_nil, neg_sum, mul_nil, nil_mul, neg_mul, mul_neg, neg_mul_neg, sub_of_eq, num_zero, num_add, num_mul}
use Rattle.ring.specs.Expression.{P, none, more, choose, into, merge, flip, scale, times}
use Rattle.ring.specs.Monomial.{Eq, eq_by_compare, mono, size, mono_add}

module _ (R : CommRing) (ρ : List R.carrier) where
  infixl 60 ◌+◌
  infixl 70 ◌*◌
  open R use {carrier as A, add as ◌+◌, mul as ◌*◌, neg as inv}

  unfoldable pub coef : ℕ → ℕ → A
  coef a b = num R a + inv (num R b)

  coef_add : (a b c d : ℕ) → coef (a +ℕ c) (b +ℕ d) ≡ coef a b + coef c d
  unfolding coef
  coef_add a b c d = ap₂ ◌+◌ (num_add R a c) (ap inv (num_add R b d) ∙ neg_sum R (num R b) (num R d)) ∙ add_swap R (num R a) (num R c) (inv (num R b)) (inv (num R d))

  coef_mul : (a b c d : ℕ) → coef (a *ℕ c +ℕ b *ℕ d) (a *ℕ d +ℕ b *ℕ c) ≡ coef a b * coef c d
  unfolding coef
  coef_mul a b c d = left ∙ add_swap R (x * z) (y * w) (inv (x * w)) (inv (y * z)) ∙ ap (λ t. x * z + inv (x * w) + t) (R.add_comm (y * w) (inv (y * z))) ∙ sym right
    where
      x : A
      x = num R a

      y : A
      y = num R b

      z : A
      z = num R c

      w : A
      w = num R d

      sum : (i j k l : ℕ) → num R (i *ℕ j +ℕ k *ℕ l) ≡ num R i * num R j + num R k * num R l
      sum i j k l = num_add R (i *ℕ j) (k *ℕ l) ∙ ap₂ ◌+◌ (num_mul R i j) (num_mul R k l)

      left : num R (a *ℕ c +ℕ b *ℕ d) + inv (num R (a *ℕ d +ℕ b *ℕ c)) ≡ (x * z + y * w) + (inv (x * w) + inv (y * z))
      left = ap₂ ◌+◌ (sum a c b d) (ap inv (sum a d b c) ∙ neg_sum R (x * w) (y * z))

      right : (x + inv y) * (z + inv w) ≡ (x * z + inv (x * w)) + (inv (y * z) + y * w)
      right = add_mul R x (inv y) (z + inv w) ∙ ap₂ ◌+◌ (R.mul_add x z (inv w) ∙ ap (λ t. x * z + t) (mul_neg R x w)) (R.mul_add (inv y) z (inv w) ∙ ap₂ ◌+◌ (neg_mul R y z) (neg_mul_neg R y w))

  coef_flip : (a b : ℕ) → coef b a ≡ inv (coef a b)
  unfolding coef
  coef_flip a b = R.add_comm (num R b) (inv (num R a)) ∙ ap (λ t. inv (num R a) + t) (sym (neg_neg R (num R b))) ∙ sym (neg_sum R (num R a) (inv (num R b)))

  pub coef_same : (a b : ℕ) → a ≡ b → coef a b ≡ R.nil
  unfolding coef
  coef_same a b e = sub_of_eq R (num R a) (num R b) (ap (num R) e)

  pub coef_whole : (a : ℕ) → coef a 0 ≡ num R a
  unfolding coef
  coef_whole a = ap (λ t. num R a + t) (ap inv (num_zero R) ∙ neg_nil R) ∙ R.add_nil (num R a)

  unfoldable pub term : ℕ → ℕ → ℕ → A
  term a b m = coef a b * mono R ρ m

  unfoldable pub ev : P → A
  ev none = R.nil
  ev (more a b m p) = term a b m + ev p

  -- every monomial of p has a degree of at most d
  unfoldable pub Small : ℕ → P → Type 0
  Small d none = Unit {0}
  Small d (more a b m p) = (size R ρ m ≤ d) × Small d p

  ev_choose : (o : Ordering) (a b m : ℕ) (f : P → P) (c d n : ℕ) (g : Unit {0} → P) (p q : P) → (Eq o → m ≡ n) → ((r : P) → ev (f r) ≡ ev p + ev r)
      → ev (g tt) ≡ (term a b m + ev p) + ev q → ev (choose o a b m f c d n g q) ≡ (term a b m + ev p) + (term c d n + ev q)
  unfolding ev
  ev_choose Ordering.lt a b m f c d n g p q e hf hg = ap (λ t. term a b m + t) (hf (more c d n q)) ∙ sym (R.add_assoc (term a b m) (ev p) (term c d n + ev q))
  ev_choose Ordering.eq a b m f c d n g p q e hf hg = unfold Eq term in (
      ap₂ ◌+◌ (ap (λ t. t * mono R ρ m) (coef_add a b c d) ∙ add_mul R (coef a b) (coef c d) (mono R ρ m) ∙ ap (λ t. term a b m + coef c d * mono R ρ t) (e tt)) (hf q)
      ∙ add_swap R (term a b m) (term c d n) (ev p) (ev q))
  ev_choose Ordering.gt a b m f c d n g p q e hf hg = ap (λ t. term c d n + t) hg ∙ add_left_comm R (term c d n) (term a b m + ev p) (ev q)

  ev_into : (a b m : ℕ) (p : P) (f : P → P) → ((r : P) → ev (f r) ≡ ev p + ev r) → (q : P) → ev (into a b m p f q) ≡ (term a b m + ev p) + ev q
  unfolding ev
  ev_into a b m p f hf none = sym (R.add_nil (term a b m + ev p))
  ev_into a b m p f hf (more c d n q) = ev_choose (compare m n) a b m f c d n (λ t. into a b m p f q) p q (eq_by_compare m n) hf (ev_into a b m p f hf q)

  pub ev_merge : (p q : P) → ev (merge p q) ≡ ev p + ev q
  unfolding ev
  ev_merge none q = sym (nil_add R (ev q))
  ev_merge (more a b m p) q = ev_into a b m p (λ r. merge p r) (λ r. ev_merge p r) q

  pub ev_flip : (p : P) → ev (flip p) ≡ inv (ev p)
  unfolding ev term
  ev_flip none = sym (neg_nil R)
  ev_flip (more a b m p) = ap₂ ◌+◌ (ap (λ t. t * mono R ρ m) (coef_flip a b) ∙ neg_mul R (coef a b) (mono R ρ m)) (ev_flip p) ∙ sym (neg_sum R (term a b m) (ev p))

  ev_scale : (a b m d e : ℕ) → size R ρ m ≤ d → d +ℕ e ≤ 255 → (q : P) → Small e q → ev (scale a b m q) ≡ term a b m * ev q
  unfolding ev Small term
  ev_scale a b m d e h l none s = sym (mul_nil R (term a b m))
  ev_scale a b m d e h l (more x y n q) s =
      ap₂ ◌+◌ (ap₂ ◌*◌ (coef_mul a b x y) (mono_add R ρ m n (bound s.0)) ∙ mul_swap R (coef a b) (coef x y) (mono R ρ m) (mono R ρ n)) (ev_scale a b m d e h l q s.1)
      ∙ sym (R.mul_add (term a b m) (term x y n) (ev q))
    where
      bound : size R ρ n ≤ e → size R ρ m +ℕ size R ρ n ≤ 255
      bound k = omega arith

  pub ev_times : (d e : ℕ) → d +ℕ e ≤ 255 → (p q : P) → Small d p → Small e q → ev (times p q) ≡ ev p * ev q
  unfolding ev Small
  ev_times d e l none q s t = sym (nil_mul R (ev q))
  ev_times d e l (more a b m p) q s t =
      ev_merge (scale a b m q) (times p q) ∙ ap₂ ◌+◌ (ev_scale a b m d e s.0 l q t) (ev_times d e l p q s.1 t)
      ∙ sym (add_mul R (term a b m) (ev p) (ev q))
