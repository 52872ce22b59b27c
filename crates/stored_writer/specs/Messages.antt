-- The proof, read off the log of its run: every message is observed, so it stands there, at a place that the counts tell.
-- Assumes nothing.
use Rattle.std.specs.Prelude.{List, [], ◌∷◌, map, ℕ, zero, suc, ◌+◌, ◌*◌}
use Rattle.field.specs.Ext as E
use Rattle.field.specs.Element.{enc}
use Rattle.field.specs.Cells.{cell}
use Rattle.field.specs.declared.Ext.{Ext}
use Rattle.multilinear.specs.RoundSum.{Claims}
use Rattle.gkr.specs.Run.{Cubic, Proof}
use Rattle.stored.specs.Elements.{map_claims, map_cubic, encoded}

abbrev pub read_cubic : List ℕ → ℕ → Cubic E.Ext
read_cubic lg i = record { at1 = cell lg i; at2 = cell lg (i + 1); at3 = cell lg (i + 2) }

abbrev pub read_claims : List ℕ → ℕ → Claims E.Ext
read_claims lg i = record { p0 = cell lg i; q0 = cell lg (i + 1); p1 = cell lg (i + 2); q1 = cell lg (i + 3) }

-- k sub-rounds from cell i on, each three values and a challenge
abbrev pub read_polys : List ℕ → ℕ → ℕ → List (Cubic E.Ext)
read_polys lg i zero = []
read_polys lg i (suc k) = read_cubic lg i ∷ read_polys lg (i + 4) k

-- h layers from cell i on, the first of r sub-rounds: a challenge, the sub-rounds, the claims, a challenge
abbrev pub layer_claims : List ℕ → ℕ → ℕ → ℕ → List (Claims E.Ext)
layer_claims lg i r zero = []
layer_claims lg i r (suc h) = read_claims lg (i + 1 + 4 * r) ∷ layer_claims lg (i + 6 + 4 * r) (suc r) h

abbrev pub layer_polys : List ℕ → ℕ → ℕ → ℕ → List (List (Cubic E.Ext))
layer_polys lg i r zero = []
layer_polys lg i r (suc h) = read_polys lg (i + 1) r ∷ layer_polys lg (i + 6 + 4 * r) (suc r) h

-- the proof of a run over suc m rounds, whose log starts at cell i
abbrev pub read_proof : List ℕ → ℕ → ℕ → Proof E.Ext
read_proof lg i m = record { q0 = cell lg i; claims = read_claims lg (i + 1) ∷ layer_claims lg (i + 6) 1 m; polys = layer_polys lg (i + 6) 1 m }

-- the same as words
abbrev pub stored_cubic : List ℕ → ℕ → Cubic Ext
stored_cubic lg i = map_cubic enc (read_cubic lg i)

abbrev pub stored_claims : List ℕ → ℕ → Claims Ext
stored_claims lg i = map_claims enc (read_claims lg i)

abbrev pub stored_polys : List ℕ → ℕ → ℕ → List (Cubic Ext)
stored_polys lg i k = map (map_cubic enc) (read_polys lg i k)

abbrev pub stored_layers : List ℕ → ℕ → ℕ → ℕ → List (Claims Ext)
stored_layers lg i r h = map (map_claims enc) (layer_claims lg i r h)

abbrev pub stored_entries : List ℕ → ℕ → ℕ → ℕ → List (List (Cubic Ext))
stored_entries lg i r h = map (map (map_cubic enc)) (layer_polys lg i r h)

abbrev pub stored_proof : List ℕ → ℕ → ℕ → Proof Ext
stored_proof lg i m = encoded (read_proof lg i m)

-- the proof of no rows
abbrev pub no_rows : Proof Ext
no_rows = encoded (record { q0 = E.one; claims = []; polys = [] })

-- the words that a run over n rounds logs
abbrev pub words_of_log : ℕ → ℕ
words_of_log n = 8 * (n * n) + 16 * n
