-- A commutative ring: its operations and its laws; differences, numbers and powers in it.
-- Assumes nothing.
use Rattle.std.specs.Prelude.{◌≡◌, ℕ, zero, suc}

pub record CommRing : Type 1 where
  pub carrier : Type 0
  pub add : carrier → carrier → carrier
  pub mul : carrier → carrier → carrier
  pub neg : carrier → carrier
  pub nil : carrier
  pub one : carrier
  pub add_assoc : (a b c : carrier) → add (add a b) c ≡ add a (add b c)
  pub add_comm : (a b : carrier) → add a b ≡ add b a
  pub add_nil : (a : carrier) → add a nil ≡ a
  pub add_neg : (a : carrier) → add a (neg a) ≡ nil
  pub mul_assoc : (a b c : carrier) → mul (mul a b) c ≡ mul a (mul b c)
  pub mul_comm : (a b : carrier) → mul a b ≡ mul b a
  pub mul_one : (a : carrier) → mul a one ≡ a
  pub mul_add : (a b c : carrier) → mul a (add b c) ≡ add (mul a b) (mul a c)

-- A difference is a sum with the opposite; an abbreviation, so that both spellings are one term.
abbrev pub sub : (R : CommRing) → R.carrier → R.carrier → R.carrier
sub R a b = R.add a (R.neg b)

-- The number n of the ring. Shut: a large numeral is never counted out.
unfoldable pub num : (R : CommRing) → ℕ → R.carrier
num R zero = R.nil
num R (suc n) = R.add (num R n) R.one

unfoldable pub pow : (R : CommRing) → R.carrier → ℕ → R.carrier
pow R x zero = R.one
pow R x (suc n) = R.mul x (pow R x n)
