-- No second answer fits what the writers promise, for any input.
-- Assumes nothing.
use Rattle.std.specs.Prelude.{◌≡◌, Bool, List, ◌++◌, ℕ, ◌-◌, drop}
use Rattle.std.proofs.Common.{sym, ◌∙◌}
use Rattle.stored.specs.Layout.{layout}
use Rattle.stored.specs.Lengths.{proof_size}
use Rattle.stored_writer.specs.Messages.{stored_proof, no_rows}

-- the bytes that the proof writers leave
pub one_proof : (lg old new new' : List ℕ) (i n : ℕ) (s : Bool) → new ≡ layout s (stored_proof lg i (n - 1)) ++ drop (proof_size n) old → new' ≡ layout s (stored_proof lg i (n - 1)) ++ drop (proof_size n) old → new ≡ new'
one_proof lg old new new' i n s e e' = e ∙ sym e'

pub one_empty : (old new new' : List ℕ) (s : Bool) → new ≡ layout s no_rows ++ drop 23 old → new' ≡ layout s no_rows ++ drop 23 old → new ≡ new'
one_empty old new new' s e e' = e ∙ sym e'
