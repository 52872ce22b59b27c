-- What a run needs of its field, and no more: a commutative ring in which 2 and 6 have inverses and equality is tested. Other inverses are not asked.
-- Assumes nothing.
use Rattle.std.specs.Prelude.{◌≡◌, Bool, true}
use Rattle.ring.specs.Ring.{CommRing, num}

pub record Field : Type 1 where
  pub ring : CommRing
  pub half : ring.carrier
  pub sixth : ring.carrier
  pub two_half : ring.mul (num ring 2) half ≡ ring.one
  pub six_sixth : ring.mul (num ring 6) sixth ≡ ring.one
  pub same : ring.carrier → ring.carrier → Bool
  pub same_refl : (x : ring.carrier) → same x x ≡ true
