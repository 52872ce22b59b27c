-- The base field is a commutative ring; what `of` carries from the numbers that code computes to the field.
-- Assumes nothing.
use Prim.Native.Nat.{ℕ, zero, suc, ◌+◌, ◌*◌, ◌-◌, ◌/◌, ◌%◌, ◌≤◌, ◌<◌, compare}
use Rattle.std.specs.Prelude.{◌≡◌}
use Rattle.std.proofs.Math.Path.{refl, ap}
use Rattle.std.proofs.Common.{sym, ◌∙◌, ap₂, mod-eq_of_lt, add_assoc, add_comm, add-zero, mul_assoc, mul_comm, mul-one, mul-add, add-mul, add-sub_of_le, le_of_lt, add-one}
use mathlib.Core.HLevel.{is_prop→PathP}
use Rattle.std.proofs.Math.Nat.{mod-mod, mod-add-mod, add-mod-mod, div-add-mod, mul-add-mod_self_left, add-sub_assoc}
use Rattle.ring.specs.Ring.{CommRing, num}
use Rattle.ring.specs.RingLaws.{neg_unique, nil_add}
use Rattle.field.specs.Below.{Lt, compare_lt, lt_prop}
use Rattle.field.specs.Base.{P, F, of, add, mul, neg, nil, one, half, sixth}

pub val_lt : (a : F) → a.val < P
val_lt a = compare_lt a.val P a.fits

-- equal numbers, equal elements
pub f_path : {a b : F} → a.val ≡ b.val → a ≡ b
f_path {a} {b} e = λ i. record { val = e i; fits = is_prop→PathP (λ j. Lt (compare (e j) P)) (λ j. lt_prop (compare (e j) P)) a.fits b.fits i }

pub val_of : (n : ℕ) → (of n).val ≡ n % P
unfolding of
val_of n = refl

pub of_val : (a : F) → of a.val ≡ a
of_val a = f_path (val_of a.val ∙ mod-eq_of_lt (val_lt a))

pub of_eq : (m n : ℕ) → m % P ≡ n % P → of m ≡ of n
of_eq m n e = f_path (val_of m ∙ e ∙ sym (val_of n))

pub of_mod : (n : ℕ) → of (n % P) ≡ of n
of_mod n = of_eq _ _ (mod-mod n P)

-- remainders of products
mul_mod_left : (x y m : ℕ) → x % m * y % m ≡ x * y % m
mul_mod_left x y m = sym (ap (λ t. t * y % m) (sym (div-add-mod x m)) ∙ ap (λ t. t % m) (add-mul (m * (x / m)) (x % m) y ∙ ap (λ t. t + x % m * y) (mul_assoc m (x / m) y)) ∙ mul-add-mod_self_left m (x / m * y) (x % m * y))

mul_mod_right : (x y m : ℕ) → x * (y % m) % m ≡ x * y % m
mul_mod_right x y m = ap (λ t. t % m) (mul_comm x (y % m)) ∙ mul_mod_left y x m ∙ ap (λ t. t % m) (mul_comm y x)

-- ---- `of` keeps sums and products
pub of_add : (m n : ℕ) → of (m + n) ≡ add (of m) (of n)
unfolding add
of_add m n = sym (of_eq _ _ (ap₂ (λ s t. (s + t) % P) (val_of m) (val_of n) ∙ mod-add-mod m P (n % P) ∙ add-mod-mod m n P))

pub of_mul : (m n : ℕ) → of (m * n) ≡ mul (of m) (of n)
unfolding mul
of_mul m n = sym (of_eq _ _ (ap₂ (λ s t. s * t % P) (val_of m) (val_of n) ∙ mul_mod_left m (n % P) P ∙ mul_mod_right m n P))

pub val_add : (a b : F) → (add a b).val ≡ (a.val + b.val) % P
unfolding add
val_add a b = val_of (a.val + b.val)

pub val_mul : (a b : F) → (mul a b).val ≡ a.val * b.val % P
unfolding mul
val_mul a b = val_of (a.val * b.val)

pub val_neg : (a : F) → (neg a).val ≡ (P - a.val) % P
unfolding neg
val_neg a = val_of (P - a.val)

pub val_sub : (a b : F) → (add a (neg b)).val ≡ (a.val + (P - b.val)) % P
val_sub a b = val_add a (neg b) ∙ ap (λ t. (a.val + t) % P) (val_neg b) ∙ add-mod-mod a.val (P - b.val) P

-- ---- the laws
pub f_add_assoc : (a b c : F) → add (add a b) c ≡ add a (add b c)
unfolding add
f_add_assoc a b c = of_eq _ _ (ap (λ t. (t + c.val) % P) (val_of (a.val + b.val)) ∙ mod-add-mod (a.val + b.val) P c.val ∙ ap (λ t. t % P) (add_assoc a.val b.val c.val) ∙ sym (ap (λ t. (a.val + t) % P) (val_of (b.val + c.val)) ∙ add-mod-mod a.val (b.val + c.val) P))

pub f_add_comm : (a b : F) → add a b ≡ add b a
unfolding add
f_add_comm a b = ap of (add_comm a.val b.val)

pub f_add_nil : (a : F) → add a nil ≡ a
unfolding add nil
f_add_nil a = ap (λ t. of (a.val + t)) (val_of 0) ∙ ap of (add-zero a.val) ∙ of_val a

pub f_add_neg : (a : F) → add a (neg a) ≡ nil
unfolding add neg nil
f_add_neg a = of_eq _ _ (ap (λ t. (a.val + t) % P) (val_of (P - a.val)) ∙ add-mod-mod a.val (P - a.val) P ∙ ap (λ t. t % P) (add-sub_of_le (le_of_lt (val_lt a))))

pub f_mul_assoc : (a b c : F) → mul (mul a b) c ≡ mul a (mul b c)
unfolding mul
f_mul_assoc a b c = of_eq _ _ (ap (λ t. t * c.val % P) (val_of (a.val * b.val)) ∙ mul_mod_left (a.val * b.val) c.val P ∙ ap (λ t. t % P) (mul_assoc a.val b.val c.val) ∙ sym (ap (λ t. a.val * t % P) (val_of (b.val * c.val)) ∙ mul_mod_right a.val (b.val * c.val) P))

pub f_mul_comm : (a b : F) → mul a b ≡ mul b a
unfolding mul
f_mul_comm a b = ap of (mul_comm a.val b.val)

pub f_mul_one : (a : F) → mul a one ≡ a
unfolding mul one
f_mul_one a = ap (λ t. of (a.val * t)) (val_of 1) ∙ ap of (mul-one a.val) ∙ of_val a

pub f_mul_add : (a b c : F) → mul a (add b c) ≡ add (mul a b) (mul a c)
unfolding add mul
f_mul_add a b c = of_eq _ _ (ap (λ t. a.val * t % P) (val_of (b.val + c.val)) ∙ mul_mod_right a.val (b.val + c.val) P ∙ ap (λ t. t % P) (mul-add a.val b.val c.val))
    ∙ of_add (a.val * b.val) (a.val * c.val) ∙ refl

-- ---- the ring
abbrev pub Base : CommRing
Base =
    record {
      carrier = F;
      add = add;
      mul = mul;
      neg = neg;
      nil = nil;
      one = one;
      add_assoc = f_add_assoc;
      add_comm = f_add_comm;
      add_nil = f_add_nil;
      add_neg = f_add_neg;
      mul_assoc = f_mul_assoc;
      mul_comm = f_mul_comm;
      mul_one = f_mul_one;
      mul_add = f_mul_add;
    }

-- ---- from the numbers that code computes to elements: `simp of_rules` carries `of` to the words
pub of_neg : (n : ℕ) → n ≤ P → of (P - n) ≡ neg (of n)
of_neg n h = neg_unique Base (of n) (of (P - n)) (sym (of_add n (P - n)) ∙ ap of (add-sub_of_le h) ∙ of_P)
  where
    of_P : of P ≡ nil
    of_P = unfold nil of in refl

pub of_sub : (m n : ℕ) → n ≤ P → of (m + P - n) ≡ add (of m) (neg (of n))
of_sub m n h = ap of (add-sub_assoc h m) ∙ of_add m (P - n) ∙ ap (add (of m)) (of_neg n h)

pub from_zero : (a : F) → add (of 0) (neg a) ≡ neg a
unfolding nil
from_zero a = nil_add Base (neg a)

pub of_inj : (m n : ℕ) → m < P → n < P → of m ≡ of n → m ≡ n
of_inj m n hm hn e = sym (mod-eq_of_lt hm) ∙ sym (val_of m) ∙ ap (λ a. a.val) e ∙ val_of n ∙ mod-eq_of_lt hn

pub ruleset of_rules = (of_mod, of_add, of_mul, of_sub, of_neg)

-- the numbers of the ring
pub num_of : (n : ℕ) → num Base n ≡ of n
unfolding num
num_of zero = unfold nil in refl
num_of (suc n) = ap (λ t. add t one) (num_of n) ∙ back n
  where
    back : (n : ℕ) → add (of n) one ≡ of (suc n)
    back n = unfold one in (sym (of_add n 1) ∙ ap of (add-one n))

-- ---- the inverses of 2 and of 6
pub two_half : mul (of 2) half ≡ one
unfolding mul half one of
two_half = refl

pub six_sixth : mul (of 6) sixth ≡ one
unfolding mul sixth one of
six_sixth = refl
