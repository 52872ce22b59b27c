-- Which word a place names, counted from 0: a row has eight words, an element four, and a proof's elements are q0, then four claims a layer, then three sums a sub-round.
-- Assumes nothing.
use Rattle.std.specs.Prelude.{if◌then◌else◌, List, [], ◌∷◌, ℕ, suc, ◌*◌, ◌-◌, ◌/◌, ◌%◌, nat_lt}
use Rattle.command_text.specs.declared.places.RowWord.{RowWord}
use Rattle.command_text.specs.declared.places.ElementWord.{ElementWord}
use Rattle.command_text.specs.declared.places.SubroundAt.{SubroundAt}
use Rattle.command_text.specs.declared.places.ProofWord.{ProofWord}
use Rattle.command_text.specs.declared.places.ProofWord.TheVariants.{Root, Claim, Sum}
use Rattle.command_text.specs.Names.{side_of, claim_of, sum_of}

abbrev pub row_word : ℕ → RowWord
row_word place = record { row = place / 8; side = side_of (place % 8 / 4); word = place % 4 }

abbrev pub element_word : ℕ → ElementWord
element_word place = record { element = place / 4; word = place % 4 }

-- the layer that a sub-round stands in, by how many the layers from r on have
unfoldable pub layer_from : (r : ℕ) (counts : List ℕ) (subround : ℕ) → SubroundAt
layer_from r [] s = record { layer = r; subround = s }
layer_from r (c ∷ cs) s = if nat_lt s c then record { layer = r; subround = s } else layer_from (suc r) cs (s - c)

-- layer 0 has no sub-rounds
abbrev pub sum_word : (counts : List ℕ) (place : ℕ) → ProofWord
sum_word counts place = Sum (layer_from 1 counts (place / 12)) (sum_of (place % 12 / 4)) (place % 4)

abbrev pub proof_word : (layers : ℕ) (counts : List ℕ) (place : ℕ) → ProofWord
proof_word layers counts place =
    let k = place - 4 in
    if nat_lt place 4 then Root place
    else if nat_lt (k / 16) layers then Claim (k / 16) (claim_of (k % 16 / 4)) (k % 4)
    else sum_word counts (k - 16 * layers)
