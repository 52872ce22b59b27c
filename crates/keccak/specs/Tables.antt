-- What the standard's procedures give, computed: the offsets of its table 2 modulo 64, and the constants of the 24 rounds.
-- Assumes nothing.
use Rattle.std.specs.Prelude.{◌≡◌, refl, List, [], ◌∷◌, ℕ}
use Rattle.keccak.specs.Values.{values}
use Rattle.keccak.specs.Keccak.{grid, offset, constant}

pub offsets : grid offset
    ≡ 0 ∷ 1 ∷ 62 ∷ 28 ∷ 27 ∷
    36 ∷ 44 ∷ 6 ∷ 55 ∷ 20 ∷
    3 ∷ 10 ∷ 43 ∷ 25 ∷ 39 ∷
    41 ∷ 45 ∷ 15 ∷ 21 ∷ 8 ∷
    18 ∷ 2 ∷ 61 ∷ 56 ∷ 14 ∷
    []
offsets = refl

unfoldable pub table : List ℕ
table =
    0x0000000000000001 ∷ 0x0000000000008082 ∷ 0x800000000000808a ∷ 0x8000000080008000 ∷
    0x000000000000808b ∷ 0x0000000080000001 ∷ 0x8000000080008081 ∷ 0x8000000000008009 ∷
    0x000000000000008a ∷ 0x0000000000000088 ∷ 0x0000000080008009 ∷ 0x000000008000000a ∷
    0x000000008000808b ∷ 0x800000000000008b ∷ 0x8000000000008089 ∷ 0x8000000000008003 ∷
    0x8000000000008002 ∷ 0x8000000000000080 ∷ 0x000000000000800a ∷ 0x800000008000000a ∷
    0x8000000080008081 ∷ 0x8000000000008080 ∷ 0x0000000080000001 ∷ 0x8000000080008008 ∷
    []

pub constants : values constant 0 24 ≡ table
unfolding table constant
constants = refl
