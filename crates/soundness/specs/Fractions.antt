-- The plain sum of fractions p/q, where no q is zero.
-- Assumes nothing.
use Rattle.std.specs.Prelude.{ℕ, ◌<◌, ◌≡◌}
use Rattle.ring.specs.Ring.{CommRing}
use Rattle.multilinear.specs.Table
use Rattle.gkr.specs.Run.{Frac}

-- w inverts the denominators of the first n fractions
abbrev pub Inverts : (K : CommRing) (f : ℕ → Frac K.carrier) (w : ℕ → K.carrier) (n : ℕ) → Type 0
Inverts K f w n = (i : ℕ) → i < n → K.mul (f i).q (w i) ≡ K.one

-- the sum of the first n fractions, p times the inverse of q
abbrev pub fractions : (K : CommRing) (f : ℕ → Frac K.carrier) (w : ℕ → K.carrier) (n : ℕ) → K.carrier
fractions K f w n = Table.sum K n (λ i. K.mul (f i).p (w i))

-- EVERY DENOMINATOR HAS AN INVERSE, AND THE FRACTIONS ADD UP TO ZERO
pub record SumsToZero (K : CommRing) (f : ℕ → Frac K.carrier) (n : ℕ) : Type 0 where
  pub inverse : ℕ → K.carrier
  pub inverts : Inverts K f inverse n
  pub sum : fractions K f inverse n ≡ K.nil
