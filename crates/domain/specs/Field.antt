-- What it takes to be a field, and to be a ring in which a product is zero only where a factor is.
-- Assumes nothing.
use Rattle.std.specs.Prelude.{◌≡◌, ◌⊎◌}
use Rattle.ring.specs.Ring.{CommRing}

-- equality is decided, and every element but zero has an inverse
pub record IsField (R : CommRing) : Type 0 where
  pub decide : (a b : R.carrier) → Dec (a ≡ b)
  pub inverse : (a : R.carrier) → ¬ (a ≡ R.nil) → (b : R.carrier) × (R.mul a b ≡ R.one)

-- equality is decided, and there are no zero divisors
pub record Domain (R : CommRing) : Type 0 where
  pub decide : (a b : R.carrier) → Dec (a ≡ b)
  pub no_zero : (a b : R.carrier) → R.mul a b ≡ R.nil → (a ≡ R.nil) ⊎ (b ≡ R.nil)
