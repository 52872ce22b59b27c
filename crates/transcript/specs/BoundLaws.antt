-- The log that a run begins with: four words where the proof binds its size, and nothing is sampled yet.
-- Assumes nothing.
use Rattle.std.specs.Prelude.{◌≡◌, refl, Bool, true, false, cond, ℕ, ◌*◌, length}
use Rattle.std.proofs.Common.{ap}
use Rattle.field.specs.Ext as E
use Rattle.gkr.specs.Transcripts.{empty}
use Rattle.gkr.specs.TranscriptLaws.{sampled_words}
use Rattle.transcript.specs.Bound.{bound}
use Rattle.transcript.specs.UsedLaws.{unmarked}

pub bound_used : (sized : Bool) (n : ℕ) → (bound sized n empty).used ≡ 0
bound_used true n = refl
bound_used false n = refl

pub bound_words : (sized : Bool) (n : ℕ) → length (bound sized n empty).log ≡ cond sized 4 0
bound_words true n = refl
bound_words false n = refl

pub bound_marked : (sized : Bool) (n : ℕ) → length (sampled_words (bound sized n empty).log) ≡ 4 * (bound sized n empty).used
unfolding sampled_words
bound_marked true n = ap length (unmarked (E.ext n 0 0 0))
bound_marked false n = refl
