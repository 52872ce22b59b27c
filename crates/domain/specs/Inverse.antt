-- The power of 11 that tells that it is no square in the base field.
-- Assumes nothing.
use Rattle.std.specs.Prelude.{◌≡◌, refl}
use Rattle.ring.specs.Ring.{pow}
use Rattle.field.specs.Base as B
use Rattle.field.specs.Base.{of}
use Rattle.field.specs.BaseRing.{Base}
use Rattle.field.specs.ExtRing.{arithmetic}
use Rattle.domain.specs.Fermat.{squares}

-- ELEVEN

-- 11 ^ ((P - 1) / 2), computed
pub computed : squares Base 26 (pow Base (of 11) 15) ≡ B.neg B.one
unfolding pow arithmetic
computed = refl
