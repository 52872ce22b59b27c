-- Keccak-p[1600, 24] of FIPS 202, section 3, on a list of 25 lanes of 64 bits: lane (x, y) stands at 5y + x, and bit z of a lane counts 2^z.
-- Assumes nothing.
use Rattle.std.specs.Prelude.{cond, List, [], ◌∷◌, ℕ, zero, suc, ◌+◌, ◌-◌, ◌*◌, ◌/◌, ◌%◌, ◌^◌, eqb, ltb, get_or, set}
use Rattle.std.specs.Int.Bits.{bit_and, bit_xor}
use Rattle.keccak.specs.Values.{values}

-- each bit the other way; rotated by n to the left: what leaves at the top comes in at the bottom
abbrev pub flip : ℕ → ℕ
flip a = (2 ^ 64 - 1) - a

unfoldable pub rot : ℕ → ℕ → ℕ
rot a n = (a * 2 ^ n) % 2 ^ 64 + a / 2 ^ (64 - n)

-- lane (x, y) of a state, both modulo 5, and the state that has f x y there
abbrev pub lane : List ℕ → ℕ → ℕ → ℕ
lane a x y = get_or a (5 * (y % 5) + x % 5) 0

abbrev pub row : (ℕ → ℕ → ℕ) → ℕ → List ℕ → List ℕ
row f y rest = f 0 y ∷ f 1 y ∷ f 2 y ∷ f 3 y ∷ f 4 y ∷ rest

abbrev pub grid : (ℕ → ℕ → ℕ) → List ℕ
grid f = row f 0 (row f 1 (row f 2 (row f 3 (row f 4 []))))

-- 3.2.1: the parity of column x, a number for each column, and that number xored into the column's five lanes
abbrev pub column : List ℕ → ℕ → ℕ
column a x = bit_xor (bit_xor (bit_xor (bit_xor (lane a x 0) (lane a x 1)) (lane a x 2)) (lane a x 3)) (lane a x 4)

abbrev pub spread : List ℕ → List ℕ → List ℕ
spread a d = grid (λ x y. bit_xor (lane a x y) (get_or d x 0))

unfoldable pub theta : List ℕ → List ℕ
theta a = spread a (values (λ x. bit_xor (column a (x + 4)) (rot (column a (x + 1)) 1)) 0 5)

-- 3.2.2: step t, at (u, v), has the offset (t + 1)(t + 2)/2, and (v, 2u + 3v) is next; from (1, 0) on, 24 steps meet every lane but (0, 0), which stays
abbrev pub offset_from : ℕ → ℕ → ℕ → ℕ → ℕ → ℕ → ℕ
offset_from zero t u v x y = 0
offset_from (suc k) t u v x y = cond (eqb (5 * v + u) (5 * y + x)) ((t + 1) * (t + 2) / 2 % 64) (offset_from k (t + 1) v ((2 * u + 3 * v) % 5) x y)

abbrev pub offset : ℕ → ℕ → ℕ
offset x y = offset_from 24 0 1 0 x y

unfoldable pub rho : List ℕ → List ℕ
rho a = set (grid (λ x y. rot (lane a x y) (offset x y))) 0 (lane a 0 0)

-- 3.2.3
unfoldable pub pi : List ℕ → List ℕ
pi a = grid (λ x y. lane a (x + 3 * y) x)

-- 3.2.4
unfoldable pub chi : List ℕ → List ℕ
chi a = grid (λ x y. bit_xor (lane a x y) (bit_and (flip (lane a (x + 1) y)) (lane a (x + 2) y)))

-- 3.2.5: algorithm 5's register after t steps; in round r's constant bit 2^j − 1 is its lowest bit after j + 7r steps
abbrev pub register : ℕ → ℕ
register zero = 1
register (suc t) = cond (ltb (register t) 128) (register t * 2) (bit_xor (register t * 2 - 256) 113)

abbrev pub constant_to : ℕ → ℕ → ℕ
constant_to zero r = 0
constant_to (suc j) r = constant_to j r + register (j + 7 * r) % 2 * 2 ^ (2 ^ j - 1)

unfoldable pub constant : ℕ → ℕ
constant r = constant_to 7 r

abbrev pub add_first : ℕ → List ℕ → List ℕ
add_first w a = set a 0 (bit_xor (lane a 0 0) w)

unfoldable pub iota : ℕ → List ℕ → List ℕ
iota r a = add_first (constant r) a

-- 3.3 and 3.4: 24 rounds
unfoldable pub round : ℕ → List ℕ → List ℕ
round r a = iota r (chi (pi (rho (theta a))))

unfoldable pub rounds : ℕ → List ℕ → List ℕ
rounds zero a = a
rounds (suc r) a = round r (rounds r a)

unfoldable pub keccak : List ℕ → List ℕ
keccak a = rounds 24 a
