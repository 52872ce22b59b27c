-- What the comparisons of the check say, the meaning of a monomial, and its degree.
-- Assumes nothing.
use Prim.Native.Nat.compare
use Prim.Native.Nat.{ℕ, zero, suc, ◌^◌, ◌/◌, ◌%◌, ◌≤◌, compare, Ordering, zero-le}
use Prim.Native.Nat.{◌+◌ as ◌+ℕ◌}
use Rattle.std.specs.Prelude.{◌≡◌}
use Rattle.std.proofs.Math.Path.{refl, sym, ap, ap₂}
use Rattle.std.proofs.Common.{◌∙◌, subst}
use mathlib.Core.List.{List, [], ◌∷◌}
use native.Mathlib.Omega.{arith}
use Rattle.std.proofs.Math.Bridge.{IsLe}
use Rattle.ring.specs.Ring.{CommRing, pow}
use Rattle.ring.specs.RingLaws.{one_mul, mul_swap, pow_zero, pow_one, pow_add}
use Rattle.ring.specs.Expression.{nth, P, Left, IfEq, IfLe}

-- ---- what the comparisons say
unfoldable pub Eq : Ordering → Type 0
Eq Ordering.lt = ⊥
Eq Ordering.eq = Unit {0}
Eq Ordering.gt = ⊥

pub eq_by_compare : (m n : ℕ) → Eq (compare m n) → m ≡ n
unfolding Eq
eq_by_compare zero zero t = refl
eq_by_compare zero (suc n) t = absurd (subst Eq (compare.zero-suc n) t)
eq_by_compare (suc m) zero t = absurd (subst Eq (compare.suc-zero m) t)
eq_by_compare (suc m) (suc n) t = ap suc (eq_by_compare m n (subst Eq (compare.suc-suc m n) t))

pub if_eq : (o : Ordering) (T U : Type 0) → ¬ U → IfEq o T U → Eq o × T
unfolding Eq
if_eq Ordering.lt T U h t = absurd (h t)
if_eq Ordering.eq T U h t = (tt, t)
if_eq Ordering.gt T U h t = absurd (h t)

pub no_left : (a b m : ℕ) (p : P) → ¬ (Left a b m p)
no_left a b m p h = elim h [ ]

pub if_le : (o : Ordering) (T : Type 0) → IfLe o T → IsLe o × T
unfolding IsLe
if_le Ordering.lt T t = (tt, t)
if_le Ordering.eq T t = (tt, t)
if_le Ordering.gt T t = elim t [ ]

-- ---- the meaning of a monomial, and its degree
module _ (R : CommRing) where
  unfoldable pub mono : List R.carrier → ℕ → R.carrier
  mono [] m = R.one
  mono (x ∷ ρ) m = R.mul (pow R x (m % 256)) (mono ρ (m / 256))

  unfoldable pub size : List R.carrier → ℕ → ℕ
  size [] m = 0
  size (x ∷ ρ) m = m % 256 +ℕ size ρ (m / 256)

  no_carry : (a b x y : ℕ) → (a % 256 +ℕ x) +ℕ (b % 256 +ℕ y) ≤ 255
      → ((a +ℕ b) % 256 ≡ a % 256 +ℕ b % 256) × ((a +ℕ b) / 256 ≡ a / 256 +ℕ b / 256) × (x +ℕ y ≤ 255)
  no_carry a b x y h = (omega arith, omega arith, omega arith)

  pub size_add : (ρ : List R.carrier) (m n : ℕ) → size ρ m +ℕ size ρ n ≤ 255 → size ρ (m +ℕ n) ≡ size ρ m +ℕ size ρ n
  unfolding size
  size_add [] m n h = refl
  size_add (x ∷ ρ) m n h =
      let c = no_carry m n (size ρ (m / 256)) (size ρ (n / 256)) h in
      ap₂ ◌+ℕ◌ c.0 (ap (size ρ) c.1 ∙ size_add ρ (m / 256) (n / 256) c.2) ∙ regroup (m % 256) (n % 256) (size ρ (m / 256)) (size ρ (n / 256))
    where
      regroup : (a b x y : ℕ) → a +ℕ b +ℕ (x +ℕ y) ≡ a +ℕ x +ℕ (b +ℕ y)
      regroup a b x y = omega arith

  pub mono_add : (ρ : List R.carrier) (m n : ℕ) → size ρ m +ℕ size ρ n ≤ 255 → mono ρ (m +ℕ n) ≡ R.mul (mono ρ m) (mono ρ n)
  unfolding size mono
  mono_add [] m n h = sym (R.mul_one R.one)
  mono_add (x ∷ ρ) m n h =
      let c = no_carry m n (size ρ (m / 256)) (size ρ (n / 256)) h in
      ap₂ R.mul (ap (pow R x) c.0 ∙ pow_add R x (m % 256) (n % 256)) (ap (mono ρ) c.1 ∙ mono_add ρ (m / 256) (n / 256) c.2)
      ∙ mul_swap R (pow R x (m % 256)) (pow R x (n % 256)) (mono ρ (m / 256)) (mono ρ (n / 256))

  pub mono_zero : (ρ : List R.carrier) → mono ρ 0 ≡ R.one
  unfolding mono
  mono_zero [] = refl
  mono_zero (x ∷ ρ) = ap₂ R.mul (pow_zero R x) (mono_zero ρ) ∙ R.mul_one R.one

  pub size_zero : (ρ : List R.carrier) → size ρ 0 ≡ 0
  unfolding size
  size_zero [] = refl
  size_zero (x ∷ ρ) = ap (λ t. 0 +ℕ t) (size_zero ρ)

  digit : (i : ℕ) → (256 ^ suc i % 256 ≡ 0) × (256 ^ suc i / 256 ≡ 256 ^ i)
  digit i = (omega arith, omega arith)

  pub mono_var : (ρ : List R.carrier) (i : ℕ) → mono ρ (256 ^ i) ≡ nth R ρ i
  unfolding mono
  mono_var [] i = refl
  mono_var (x ∷ ρ) zero = ap₂ R.mul (pow_one R x) (mono_zero ρ) ∙ R.mul_one x
  mono_var (x ∷ ρ) (suc i) = ap₂ R.mul (ap (pow R x) (digit i).0 ∙ pow_zero R x) (ap (mono ρ) (digit i).1 ∙ mono_var ρ i) ∙ one_mul R (nth R ρ i)

  pub size_var : (ρ : List R.carrier) (i : ℕ) → size ρ (256 ^ i) ≤ 1
  unfolding size
  size_var [] i = zero-le
  size_var (x ∷ ρ) zero = omega (arith, size_zero ρ)
  size_var (x ∷ ρ) (suc i) =
      let e = ap (size ρ) (digit i).1 in
      omega (arith, (digit i).0, e, size_var ρ i)
