-- The stored form of a proof: version 1 or 2, the length of all that follows, q0, the claims and the polynomial entries, each list after its count.
-- Assumes nothing.
use Rattle.std.specs.Prelude.{Bool, cond, List, [], ◌∷◌, ◌++◌, ℕ, length}
use Rattle.field.specs.declared.Ext.{Ext}
use Rattle.multilinear.specs.RoundSum.{Claims}
use Rattle.gkr.specs.Run.{Cubic, Proof}
use Rattle.wire.specs.Bytes.{be4, bytes_of}
use Rattle.wire.specs.Words.{ext_words}

-- the words of elements in stored order
abbrev pub claim_words : Claims Ext → List ℕ
claim_words c = ext_words c.p0 ++ (ext_words c.q0 ++ (ext_words c.p1 ++ ext_words c.q1))

abbrev pub cubic_words : Cubic Ext → List ℕ
cubic_words m = ext_words m.at1 ++ (ext_words m.at2 ++ ext_words m.at3)

unfoldable pub claims_words : List (Claims Ext) → List ℕ
claims_words [] = []
claims_words (c ∷ cs) = claim_words c ++ claims_words cs

unfoldable pub cubics_words : List (Cubic Ext) → List ℕ
cubics_words [] = []
cubics_words (m ∷ ms) = cubic_words m ++ cubics_words ms

unfoldable pub polys_words : List (List (Cubic Ext)) → List ℕ
polys_words [] = []
polys_words (ms ∷ mss) = cubics_words ms ++ polys_words mss

-- all words of a proof
abbrev pub proof_words : Proof Ext → List ℕ
proof_words π = ext_words π.q0 ++ (claims_words π.claims ++ polys_words π.polys)

-- the polynomial entries: the number of sub-rounds, then the sub-rounds
unfoldable pub entries_bytes : List (List (Cubic Ext)) → List ℕ
entries_bytes [] = []
entries_bytes (ms ∷ mss) = length ms ∷ (bytes_of (cubics_words ms) ++ entries_bytes mss)

-- what follows the length
abbrev pub body : Proof Ext → List ℕ
body π = bytes_of (ext_words π.q0) ++ (length π.claims ∷ (bytes_of (claims_words π.claims) ++ (length π.polys ∷ entries_bytes π.polys)))

-- the version byte: 1, or 2 for a proof that binds its size
abbrev pub version_of : (sized : Bool) → ℕ
version_of sized = cond sized 2 1

unfoldable pub layout : (sized : Bool) → Proof Ext → List ℕ
layout sized π = version_of sized ∷ (be4 (length (body π)) ++ body π)
