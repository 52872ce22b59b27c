-- Refusals as a list of tests in the documents' order: the first that is met answers.
-- Assumes nothing.
use Rattle.std.specs.Prelude.{Bool, cond, List, [], ◌∷◌}
use Rattle.refusal.specs.declared.Refusal.{Refusal}

-- a condition, and the refusal where it is met
pub record Test : Type 0 where
  pub met : Bool
  pub refusal : Refusal

-- the outcome of all tests
pub data Tested : Type 0 where
  passed : Tested
  refused : Refusal → Tested

abbrev pub test : Bool → Refusal → Test
test met refusal = record { met = met; refusal = refusal }

unfoldable pub first_of : List Test → Tested
first_of [] = passed
first_of (t ∷ ts) = cond t.met (refused t.refusal) (first_of ts)
