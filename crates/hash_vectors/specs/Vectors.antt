-- Two vectors of SHAKE128, and a word that is drawn, each computed from the definition. The messages of the two are those of NIST's example values for FIPS 202
-- (csrc.nist.gov, SHAKE128_Msg0 and SHAKE128_Msg1600); all bytes here were written by Python's hashlib, and not held to NIST's own files, which were not at hand.
-- Assumes nothing.
use Rattle.std.specs.Prelude.{◌≡◌, refl, [], ◌∷◌, replicate}
use Rattle.wire.specs.Bytes.{bytes_of}
use Rattle.keccak.specs.Keccak.{keccak, rounds, round, theta, rho, pi, chi, iota, rot, constant}
use Rattle.shake.specs.Sponge.{shake128, final, padded, absorbed, absorb_block, lane_at}
use Rattle.shake.specs.Drawn.{drawn, message}

-- what unfolds when a hash computes
unfoldable hashing : Unit {0}
unfolding shake128 final padded absorbed absorb_block lane_at keccak rounds round theta rho pi chi iota rot constant
hashing = tt

-- the empty message
pub no_bytes : shake128 [] 32
    ≡
    0x7f ∷ 0x9c ∷ 0x2b ∷ 0xa4 ∷ 0xe8 ∷ 0x8f ∷ 0x82 ∷ 0x7d ∷ 0x61 ∷ 0x60 ∷ 0x45 ∷ 0x50 ∷ 0x76 ∷ 0x05 ∷ 0x85 ∷ 0x3e ∷
    0xd7 ∷ 0x3b ∷ 0x80 ∷ 0x93 ∷ 0xf6 ∷ 0xef ∷ 0xbc ∷ 0x88 ∷ 0xeb ∷ 0x1a ∷ 0x6e ∷ 0xac ∷ 0xfa ∷ 0x66 ∷ 0xef ∷ 0x26 ∷
    []
unfolding hashing
no_bytes = refl

-- 1600 bits: 200 bytes a3, two blocks
pub two_blocks : shake128 (replicate 200 0xa3) 32
    ≡
    0x13 ∷ 0x1a ∷ 0xb8 ∷ 0xd2 ∷ 0xb5 ∷ 0x94 ∷ 0x94 ∷ 0x6b ∷ 0x9c ∷ 0x81 ∷ 0x33 ∷ 0x3f ∷ 0x9b ∷ 0xb6 ∷ 0xe0 ∷ 0xce ∷
    0x75 ∷ 0xc3 ∷ 0xb9 ∷ 0x31 ∷ 0x04 ∷ 0xfa ∷ 0x34 ∷ 0x69 ∷ 0xd3 ∷ 0x91 ∷ 0x74 ∷ 0x57 ∷ 0x38 ∷ 0x5d ∷ 0xa0 ∷ 0x37 ∷
    []
unfolding hashing
two_blocks = refl

-- the word drawn after the label frac-gkr/1 and one sampled word, the number 1
pub drawn_word : drawn (102 ∷ 114 ∷ 97 ∷ 99 ∷ 45 ∷ 103 ∷ 107 ∷ 114 ∷ 47 ∷ 49 ∷ []) (0x80000001 ∷ []) ≡ 1232316356
unfolding hashing drawn message bytes_of
drawn_word = refl
