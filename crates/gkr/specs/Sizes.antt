-- The sizes of a run over n rounds, n ≥ 1: challenges, log, proof, point and workspace.
-- Assumes nothing.
use Rattle.std.specs.Prelude.{Bool, cond, ℕ, zero, suc, ◌+◌, ◌*◌, ◌-◌, ◌/◌, ◌^◌}

-- challenges needed, in elements: C(n) = 2n − 1 + n(n−1)/2
abbrev pub challenges : (n : ℕ) → ℕ
challenges n = 2 * n - 1 + n * (n - 1) / 2

-- log words: 8n² + 16n, four more when zero is not asserted
abbrev pub log_words : (asserted : Bool) (n : ℕ) → ℕ
log_words asserted n = 8 * (n * n) + 16 * n + cond asserted 0 4

-- bytes of an honest proof: 22 + 65n + 24n(n−1), and 23 for no rows
abbrev pub proof_bytes : (n : ℕ) → ℕ
proof_bytes zero = 23
proof_bytes (suc m) = let n = suc m in 22 + 65 * n + 24 * (n * (n - 1))

-- words of the point, and of the prover's workspace
abbrev pub point_words : (n : ℕ) → ℕ
point_words n = 4 * n

abbrev pub workspace_words : (n : ℕ) → ℕ
workspace_words n = 32 * 2 ^ n
