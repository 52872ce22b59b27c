-- SHAKE128 of FIPS 202 (section 4, 5.1, 6.2, and B.2 for bytes), of any bytes and to any length. The rate is 168 bytes, or 21 lanes.
-- Assumes nothing.
use Rattle.std.specs.Prelude.{List, [], ◌∷◌, ◌++◌, reverse, ℕ, zero, suc, ◌+◌, ◌-◌, ◌*◌, ◌/◌, ◌%◌, ◌^◌, get_or, set, length, take, replicate}
use Rattle.std.specs.Int.Bits.{bit_xor}
use Rattle.keccak.specs.Values.{values}
use Rattle.keccak.specs.Keccak.{keccak}

-- bytes as a number: the first the lowest, and the first the highest
abbrev pub low_first : List ℕ → ℕ
low_first [] = 0
low_first (b ∷ bs) = b + 256 * low_first bs

abbrev pub high_first : List ℕ → ℕ
high_first bs = low_first (reverse bs)

-- the byte 1f (the suffix 1111, and the first 1 of the padding), zeros up to a whole block, and the last 1 in the top bit of the last byte
abbrev pub closed : List ℕ → List ℕ
closed m = m ++ (31 ∷ replicate (167 - length m % 168) 0)

abbrev pub top_bit : List ℕ → ℕ → List ℕ
top_bit p i = set p i (get_or p i 0 + 128)

unfoldable pub padded : List ℕ → List ℕ
padded m = top_bit (closed m) (length m / 168 * 168 + 167)

-- lane i of the bytes p, and the lanes of block k
unfoldable pub lane_at : List ℕ → ℕ → ℕ
lane_at p i = low_first (values (λ j. get_or p j 0) (8 * i) 8)

abbrev pub block_at : List ℕ → ℕ → List ℕ
block_at p k = values (lane_at p) (21 * k) 21

-- a block is xored into the front of the state
abbrev pub xored : List ℕ → List ℕ → List ℕ
xored s [] = s
xored [] (b ∷ bs) = []
xored (a ∷ s) (b ∷ bs) = bit_xor a b ∷ xored s bs

unfoldable pub absorb_block : List ℕ → List ℕ → ℕ → List ℕ
absorb_block s p k = keccak (xored s (block_at p k))

-- the state after the first k blocks of p, and after a whole message
unfoldable pub absorbed : ℕ → List ℕ → List ℕ
absorbed zero p = replicate 25 0
absorbed (suc k) p = absorb_block (absorbed k p) p k

unfoldable pub final : List ℕ → List ℕ
final m = absorbed (length m / 168 + 1) (padded m)

-- byte j of a lane, 0 the lowest, and the bytes of lanes
abbrev pub lane_byte : ℕ → ℕ → ℕ
lane_byte a j = a / 2 ^ (8 * j) % 256

abbrev pub bytes : List ℕ → List ℕ
bytes [] = []
bytes (a ∷ s) = values (lane_byte a) 0 8 ++ bytes s

-- k blocks of output from the state s on
abbrev pub squeezed : ℕ → List ℕ → List ℕ
squeezed zero s = []
squeezed (suc k) s = bytes (take 21 s) ++ squeezed k (keccak s)

-- the first d bytes of SHAKE128 of the message m
unfoldable pub shake128 : List ℕ → ℕ → List ℕ
shake128 m d = take d (squeezed (d / 168 + 1) (final m))
