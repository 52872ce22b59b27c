-- What follows from the laws of a commutative ring.
-- Assumes nothing.
use Rattle.std.specs.Prelude.{◌≡◌, ◌+◌ as ◌+ℕ◌, ◌*◌ as ◌*ℕ◌}
use Rattle.std.proofs.Math.Path.{refl, sym, ap, ap₂}
use Rattle.std.proofs.Common.{◌∙◌, zero-add, suc-add, zero-mul, suc-mul}
use Prim.Native.Nat.{ℕ, zero, suc}
use Rattle.ring.specs.Ring.{CommRing, num, pow}

module _ (R : CommRing) where
  infixl 60 ◌+◌
  infixl 70 ◌*◌
  open R use {carrier as A, add as ◌+◌, mul as ◌*◌, neg as −◌, nil as 𝟘, one as 𝟙}

  pub nil_add : (a : A) → 𝟘 + a ≡ a
  nil_add a = R.add_comm 𝟘 a ∙ R.add_nil a

  pub neg_add : (a : A) → (R.neg a) + a ≡ 𝟘
  neg_add a = R.add_comm (R.neg a) a ∙ R.add_neg a

  pub one_mul : (a : A) → 𝟙 * a ≡ a
  one_mul a = R.mul_comm 𝟙 a ∙ R.mul_one a

  pub add_mul : (a b c : A) → (a + b) * c ≡ a * c + b * c
  add_mul a b c = R.mul_comm (a + b) c ∙ R.mul_add c a b ∙ ap₂ ◌+◌ (R.mul_comm c a) (R.mul_comm c b)

  pub add_left_comm : (a b c : A) → a + (b + c) ≡ b + (a + c)
  add_left_comm a b c = sym (R.add_assoc a b c) ∙ ap (λ t. t + c) (R.add_comm a b) ∙ R.add_assoc b a c

  pub mul_left_comm : (a b c : A) → a * (b * c) ≡ b * (a * c)
  mul_left_comm a b c = sym (R.mul_assoc a b c) ∙ ap (λ t. t * c) (R.mul_comm a b) ∙ R.mul_assoc b a c

  pub add_swap : (a b c d : A) → (a + b) + (c + d) ≡ (a + c) + (b + d)
  add_swap a b c d = R.add_assoc a b (c + d) ∙ ap (λ t. a + t) (add_left_comm b c d) ∙ sym (R.add_assoc a c (b + d))

  pub mul_swap : (a b c d : A) → (a * b) * (c * d) ≡ (a * c) * (b * d)
  mul_swap a b c d = R.mul_assoc a b (c * d) ∙ ap (λ t. a * t) (mul_left_comm b c d) ∙ sym (R.mul_assoc a c (b * d))

  pub add_cancel_right : (a b c : A) → a + c ≡ b + c → a ≡ b
  add_cancel_right a b c h = sym (back a) ∙ ap (λ t. t + R.neg c) h ∙ back b
    where
      back : (x : A) → (x + c) + R.neg c ≡ x
      back x = R.add_assoc x c (R.neg c) ∙ ap (λ t. x + t) (R.add_neg c) ∙ R.add_nil x

  -- whatever is a right opposite is the opposite
  pub neg_unique : (a b : A) → a + b ≡ 𝟘 → b ≡ R.neg a
  neg_unique a b h = add_cancel_right b (R.neg a) a (R.add_comm b a ∙ h ∙ sym (neg_add a))

  pub neg_neg : (a : A) → R.neg (R.neg a) ≡ a
  neg_neg a = sym (neg_unique (R.neg a) a (neg_add a))

  pub neg_nil : R.neg 𝟘 ≡ 𝟘
  neg_nil = sym (neg_unique 𝟘 𝟘 (R.add_nil 𝟘))

  pub neg_sum : (a b : A) → R.neg (a + b) ≡ R.neg a + R.neg b
  neg_sum a b = sym (neg_unique (a + b) (R.neg a + R.neg b) (add_swap a b (R.neg a) (R.neg b) ∙ ap₂ ◌+◌ (R.add_neg a) (R.add_neg b) ∙ R.add_nil 𝟘))

  pub mul_nil : (a : A) → a * 𝟘 ≡ 𝟘
  mul_nil a = add_cancel_right (a * 𝟘) 𝟘 (a * 𝟘) (sym (R.mul_add a 𝟘 𝟘) ∙ ap (λ t. a * t) (R.add_nil 𝟘) ∙ sym (nil_add (a * 𝟘)))

  pub nil_mul : (a : A) → 𝟘 * a ≡ 𝟘
  nil_mul a = R.mul_comm 𝟘 a ∙ mul_nil a

  pub neg_mul : (a b : A) → R.neg a * b ≡ R.neg (a * b)
  neg_mul a b = neg_unique (a * b) (R.neg a * b) (sym (add_mul a (R.neg a) b) ∙ ap (λ t. t * b) (R.add_neg a) ∙ nil_mul b)

  pub mul_neg : (a b : A) → a * R.neg b ≡ R.neg (a * b)
  mul_neg a b = R.mul_comm a (R.neg b) ∙ neg_mul b a ∙ ap R.neg (R.mul_comm b a)

  pub neg_mul_neg : (a b : A) → R.neg a * R.neg b ≡ a * b
  neg_mul_neg a b = neg_mul a (R.neg b) ∙ ap R.neg (mul_neg a b) ∙ neg_neg (a * b)

  -- a difference that is nothing
  pub eq_of_sub : (a b : A) → a + R.neg b ≡ 𝟘 → a ≡ b
  eq_of_sub a b h = add_cancel_right a b (R.neg b) (h ∙ sym (R.add_neg b))

  pub sub_of_eq : (a b : A) → a ≡ b → a + R.neg b ≡ 𝟘
  sub_of_eq a b h = ap (λ t. t + R.neg b) h ∙ R.add_neg b

  -- numbers of the ring
  pub num_zero : num R 0 ≡ 𝟘
  unfolding num
  num_zero = refl

  pub num_one : num R 1 ≡ 𝟙
  unfolding num
  num_one = nil_add 𝟙

  pub num_suc : (n : ℕ) → num R (suc n) ≡ num R n + 𝟙
  unfolding num
  num_suc n = refl

  pub num_add : (m n : ℕ) → num R (m +ℕ n) ≡ num R m + num R n
  unfolding num
  num_add zero n = ap (num R) (zero-add n) ∙ sym (nil_add (num R n))
  num_add (suc m) n = ap (num R) (suc-add m n) ∙ ap (λ t. t + 𝟙) (num_add m n) ∙ R.add_assoc (num R m) (num R n) 𝟙 ∙ ap (λ t. num R m + t) (R.add_comm (num R n) 𝟙) ∙ sym (R.add_assoc (num R m) 𝟙 (num R n))

  pub num_mul : (m n : ℕ) → num R (m *ℕ n) ≡ num R m * num R n
  unfolding num
  num_mul zero n = ap (num R) (zero-mul n) ∙ sym (nil_mul (num R n))
  num_mul (suc m) n = ap (num R) (suc-mul m n) ∙ num_add (m *ℕ n) n ∙ ap₂ ◌+◌ (num_mul m n) (sym (one_mul (num R n))) ∙ sym (add_mul (num R m) 𝟙 (num R n))

  pub num_two : num R 2 ≡ 𝟙 + 𝟙
  num_two = num_suc 1 ∙ ap (λ t. t + 𝟙) num_one

  -- powers
  pub pow_zero : (x : A) → pow R x 0 ≡ 𝟙
  unfolding pow
  pow_zero x = refl

  pub pow_suc : (x : A) (n : ℕ) → pow R x (suc n) ≡ x * pow R x n
  unfolding pow
  pow_suc x n = refl

  pub pow_one : (x : A) → pow R x 1 ≡ x
  unfolding pow
  pow_one x = R.mul_one x

  pub pow_add : (x : A) (m n : ℕ) → pow R x (m +ℕ n) ≡ pow R x m * pow R x n
  unfolding pow
  pow_add x zero n = ap (pow R x) (zero-add n) ∙ sym (one_mul (pow R x n))
  pow_add x (suc m) n = ap (pow R x) (suc-add m n) ∙ ap (λ t. x * t) (pow_add x m n) ∙ sym (R.mul_assoc x (pow R x m) (pow R x n))
