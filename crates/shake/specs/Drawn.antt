-- The word that is drawn from a label and words, and what it means that a sponge has absorbed blocks of a message.
-- Assumes nothing.
use Rattle.std.specs.Prelude.{◌≡◌, List, ◌++◌, ℕ, ◌*◌, ◌%◌, ◌≤◌, length}
use Rattle.field.specs.Base.{P}
use Rattle.wire.specs.Bytes.{bytes_of}
use Rattle.keccak.specs.State.{as_list}
use Rattle.shake.specs.Sponge.{high_first, absorbed, shake128}
use Rattle.shake.specs.declared.Sponge.{Sponge}

-- the bytes of a label, and then words of 4 bytes each
unfoldable pub message : List ℕ → List ℕ → List ℕ
message label ws = label ++ bytes_of ws

-- the first 8 bytes of their hash, the first the highest, modulo the prime
unfoldable pub drawn : List ℕ → List ℕ → ℕ
drawn label ws = high_first (shake128 (message label ws) 8) % P

-- the sponge is the state after so many whole blocks of the message
pub record Holds (s : Sponge) (m : List ℕ) : Type 0 where
  pub within : 168 * s.blocks ≤ length m
  pub state : as_list s.lanes ≡ absorbed s.blocks m
