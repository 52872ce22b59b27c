-- The elements of a log of words, and what a log has where a challenge was drawn.
-- Assumes nothing.
use Rattle.std.specs.Prelude.{ℕ, ◌%◌, ◌^◌, ◌≡◌, List, [], ◌∷◌, ◌++◌, map, drop}
use Rattle.field.specs.Base.{F, of}
use Rattle.field.specs.Ext.{Ext}
use Rattle.field.specs.Element.{words}
use Rattle.gkr.specs.Transcripts.{mark, Words, Source}

-- a number of words that four divides
abbrev pub Fours : List ℕ → Type 0
Fours [] = Unit {0}
Fours (a ∷ []) = ⊥
Fours (a ∷ b ∷ []) = ⊥
Fours (a ∷ b ∷ c ∷ []) = ⊥
Fours (a ∷ b ∷ c ∷ d ∷ ws) = Fours ws

-- the base element of a word of the log, without its top bit
abbrev pub plain : ℕ → F
plain w = of (w % 2 ^ 31)

abbrev pub element : (a b c d : ℕ) → Ext
element a b c d = record { c0 = plain a; c1 = plain b; c2 = plain c; c3 = plain d }

unfoldable pub elements : List ℕ → List Ext
elements [] = []
elements (a ∷ []) = []
elements (a ∷ b ∷ []) = []
elements (a ∷ b ∷ c ∷ []) = []
elements (a ∷ b ∷ c ∷ d ∷ ws) = element a b c d ∷ elements ws

-- the elements of a log past its first k words
unfoldable pub read : (k : ℕ) (t : Words) → List Ext
read k t = elements (drop k t.log)

-- a log begins with the words of u, and then has the challenge that the source gives at u, its words marked
abbrev pub DrewAt : (source : Source Ext) (u : Words) (log : List ℕ) → Type 0
DrewAt source u log = (rest : List ℕ) × (log ≡ u.log ++ (map mark (words (source u)) ++ rest))
