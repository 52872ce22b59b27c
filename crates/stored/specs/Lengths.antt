-- A proof of n rounds: how many layers and sub-rounds it has, and how many bytes: 22 + 65 n + 24 n (n - 1).
-- Assumes nothing.
use Rattle.std.specs.Prelude.{◌≡◌, List, [], ◌∷◌, ℕ, zero, suc, ◌+◌, ◌*◌, ◌-◌, length}
use Rattle.field.specs.declared.Ext.{Ext}
use Rattle.gkr.specs.Run.{Cubic, Proof}

-- r, r + 1, .., h numbers
unfoldable pub up_from : ℕ → ℕ → List ℕ
up_from r zero = []
up_from r (suc h) = r ∷ up_from (suc r) h

unfoldable pub lengths : List (List (Cubic Ext)) → List ℕ
lengths [] = []
lengths (ms ∷ mss) = length ms ∷ lengths mss

-- n layers, and 1, 2, .., n - 1 sub-rounds
pub record Rounds (n : ℕ) (π : Proof Ext) : Type 0 where
  pub layers : length π.claims ≡ n
  pub subrounds : lengths π.polys ≡ up_from 1 (n - 1)

abbrev pub proof_size : ℕ → ℕ
proof_size n = 22 + 65 * n + 24 * (n * (n - 1))
