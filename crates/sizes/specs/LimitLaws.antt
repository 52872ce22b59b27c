-- What holds of rounds that are taken: nothing that is counted with them wraps. No other proof has to look at the limit.
-- Assumes nothing.
use Rattle.std.specs.Prelude.{ℕ, ◌*◌, ◌-◌, ◌^◌, ◌<◌, ◌≤◌}
use Rattle.std.proofs.Common.{mul-le-mul, arith}
use Rattle.std.proofs.Math.Nat.{pow-le-pow_right}
use Rattle.std.proofs.Math.Bridge.{le_by_compare, IsLe}
use Rattle.refusal.specs.Limits.{max_rounds, max_rows}

-- 1 can be shifted by so many
pub rounds_small : (n : ℕ) → n ≤ max_rounds → n < 64
rounds_small n h = omega arith

pub square_small : (n : ℕ) → n ≤ max_rounds → n * n ≤ max_rounds * max_rounds
square_small n h = mul-le-mul {n₂ = max_rounds} {m₂ = max_rounds} h h

pub pair_small : (n : ℕ) → n ≤ max_rounds → n * (n - 1) ≤ max_rounds * max_rounds
pair_small n h = mul-le-mul {n₂ = max_rounds} {m₂ = max_rounds} h (omega arith)

pub rows_taken : (n : ℕ) → n ≤ max_rounds → 2 ^ n ≤ max_rows
unfolding IsLe
rows_taken n h = pow-le-pow_right (le_by_compare 1 2 tt) h
