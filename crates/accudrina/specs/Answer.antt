-- The sixteen words of an answer: the number, three plain fields, two elements, what was used up, two words of zero.
-- Assumes nothing.
use Rattle.std.specs.Prelude.{List, [], ◌∷◌, ◌++◌, ℕ, ◌%◌}
use Rattle.wire.specs.Words.{ext_words}
use Rattle.refusal.specs.declared.Report.{Report}
use Rattle.transcript.specs.declared.Used.{Used}

-- a plain field in a word: every count, row and round is far below 2 ^ 32
abbrev pub field_word : ℕ → ℕ
field_word x = x % 4294967296

unfoldable pub answer_words : Report → Used → List ℕ
answer_words r u =
    r.number ∷ field_word r.first ∷ field_word r.second ∷ field_word r.third
    ∷ (ext_words r.left ++ (ext_words r.right ++ (field_word u.challenges ∷ field_word u.words ∷ 0 ∷ 0 ∷ [])))

-- what a call returns, and the words that it writes
pub record Told : Type 0 where
  pub number : ℕ
  pub words : List ℕ

abbrev pub tells : Report → Used → Told
tells r u = record { number = r.number; words = answer_words r u }
