-- Reading a proof from bytes: a wrong version, a length or list that disagrees with the bytes, or the proof.
-- Assumes nothing.
use Rattle.std.specs.Prelude.{Bool, false, cond, ◌||◌, List, [], ◌∷◌, ℕ, zero, suc, ◌+◌, ◌*◌, eqb, leb, length, get_or, drop}
use Rattle.field.specs.declared.Ext.{Ext}
use Rattle.multilinear.specs.RoundSum.{Claims}
use Rattle.gkr.specs.Run.{Cubic, Proof}
use Rattle.wire.specs.Bytes.{word, elem}

-- what the first 64, and the first 48, bytes hold
abbrev pub claims_of : List ℕ → Claims Ext
claims_of bs = record { p0 = elem bs; q0 = elem (drop 16 bs); p1 = elem (drop 32 bs); q1 = elem (drop 48 bs) }

abbrev pub cubic_of : List ℕ → Cubic Ext
cubic_of bs = record { at1 = elem bs; at2 = elem (drop 16 bs); at3 = elem (drop 32 bs) }

-- k layers' claims, k sub-rounds, k polynomial entries, from the first byte on
unfoldable pub claims_from : ℕ → List ℕ → List (Claims Ext)
claims_from zero bs = []
claims_from (suc k) bs = claims_of bs ∷ claims_from k (drop 64 bs)

unfoldable pub cubics_from : ℕ → List ℕ → List (Cubic Ext)
cubics_from zero bs = []
cubics_from (suc k) bs = cubic_of bs ∷ cubics_from k (drop 48 bs)

-- the bytes of the entry at the front
abbrev pub entry_size : List ℕ → ℕ
entry_size bs = 1 + 48 * get_or bs 0 0

unfoldable pub entries_from : ℕ → List ℕ → List (List (Cubic Ext))
entries_from zero bs = []
entries_from (suc k) bs = cubics_from (get_or bs 0 0) (drop 1 bs) ∷ entries_from k (drop (entry_size bs) bs)

-- k entries use up the bytes
unfoldable pub entries_fit : ℕ → List ℕ → Bool
entries_fit zero bs = eqb (length bs) 0
entries_fit (suc k) bs = cond (leb (entry_size bs) (length bs)) (entries_fit k (drop (entry_size bs) bs)) false

-- the first byte is 1 or 2, and whether it is 2
abbrev pub known : List ℕ → Bool
known bs = eqb (get_or bs 0 0) 1 || eqb (get_or bs 0 0) 2

abbrev pub sized : List ℕ → Bool
sized bs = eqb (get_or bs 0 0) 2

-- the counts, and the place of the first entry
abbrev pub count_of_layers : List ℕ → ℕ
count_of_layers bs = get_or bs 21 0

abbrev pub count_of_entries : List ℕ → ℕ
count_of_entries bs = get_or bs (22 + 64 * count_of_layers bs) 0

abbrev pub polys_at : List ℕ → ℕ
polys_at bs = 23 + 64 * count_of_layers bs

-- the stored length is what follows it, and so are the lists
unfoldable pub fits : List ℕ → Bool
fits bs =
    cond (eqb (5 + word (drop 1 bs)) (length bs))
    (cond (leb (polys_at bs) (length bs)) (entries_fit (count_of_entries bs) (drop (polys_at bs) bs)) false)
    false

abbrev pub proof_of : List ℕ → Proof Ext
proof_of bs = record { q0 = elem (drop 5 bs); claims = claims_from (count_of_layers bs) (drop 22 bs); polys = entries_from (count_of_entries bs) (drop (polys_at bs) bs) }

pub data Parsed : Type 0 where
  bad_version : Parsed
  bad_length : Parsed
  parsed : (sized : Bool) → Proof Ext → Parsed

unfoldable pub parse : List ℕ → Parsed
parse bs = cond (known bs) (cond (fits bs) (parsed (sized bs) (proof_of bs)) bad_length) bad_version
