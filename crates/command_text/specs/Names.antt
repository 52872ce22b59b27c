-- The names of a row's sides, of a layer's claims and of a sub-round's sums, by their numbers from 0; any other number has the last one's name.
-- Assumes nothing.
use Rattle.std.specs.Prelude.{ℕ, zero, suc}
use Rattle.command_text.specs.declared.names.Side.{Side}
use Rattle.command_text.specs.declared.names.Side.TheVariants.{P, Q}
use Rattle.command_text.specs.declared.names.Claim.{Claim}
use Rattle.command_text.specs.declared.names.Claim.TheVariants.{P0, Q0, P1, Q1}
use Rattle.command_text.specs.declared.names.Sum.{Sum}
use Rattle.command_text.specs.declared.names.Sum.TheVariants.{S1, S2, S3}

abbrev pub side_of : ℕ → Side
side_of zero = P
side_of (suc k) = Q

abbrev pub claim_of : ℕ → Claim
claim_of zero = P0
claim_of (suc zero) = Q0
claim_of (suc (suc zero)) = P1
claim_of (suc (suc (suc k))) = Q1

abbrev pub sum_of : ℕ → Sum
sum_of zero = S1
sum_of (suc zero) = S2
sum_of (suc (suc k)) = S3
