-- A row over zero, of any ring.
-- Assumes nothing.
use Rattle.std.specs.Prelude.{◌≡◌, ℕ, ◌<◌}
use Rattle.ring.specs.Ring.{CommRing}
use Rattle.gkr.specs.Run.{Frac}

-- one of the first k fractions has the denominator zero
abbrev pub ZeroRow : (K : CommRing) (f : ℕ → Frac K.carrier) (k : ℕ) → Type 0
ZeroRow K f k = (i : ℕ) × (i < k) × ((f i).q ≡ K.nil)
