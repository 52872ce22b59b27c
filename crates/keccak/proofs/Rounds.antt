-- The loop over the rounds.
-- Assumes nothing.
use mathlib.Core.Path.{◌≡◌, sym, ap, ◌∙◌}
use mathlib.Core.List.{List}
use Prim.Native.Nat.{ℕ, ◌+◌, ◌≤◌, ◌<◌}
use native.Mathlib.Nat.{zero-add}
use native.Mathlib.Numerals.{add-one}
use native.Mathlib.Omega.{arith}
use lib.ListN.{get_or}
use Rattle.keccak.specs.ValueLaws.{value_at}
use Rattle.keccak.specs.Keccak.{theta, rho, pi, chi, iota, constant, add_first, round, rounds, keccak}
use Rattle.keccak.specs.Tables.{table, constants}

pub constant_at : (k : ℕ) → k < 24 → get_or table k 0 ≡ constant k
constant_at k h = ap (λ (l : List ℕ). get_or l k 0) (sym constants) ∙ value_at constant 0 24 k h ∙ ap constant (zero-add k)

pub one_more : {s t : List ℕ} (a : List ℕ) (k : ℕ) → s ≡ rounds k a → t ≡ round k s → t ≡ rounds (k + 1) a
unfolding rounds
one_more a k e f = rw (add-one k) (f ∙ ap (round k) e)

pub all_rounds : {s : List ℕ} (a : List ℕ) (k : ℕ) → k ≤ 24 → 24 ≤ k → s ≡ rounds k a → s ≡ keccak a
unfolding keccak
all_rounds a k h l e = let q : k ≡ 24 = omega arith in e ∙ ap (λ (n : ℕ). rounds n a) q

-- a round with a word that is the round's constant
pub with_constant : {t : List ℕ} (s : List ℕ) (k : ℕ) {w : ℕ} → w ≡ constant k → t ≡ add_first w (chi (pi (rho (theta s)))) → t ≡ round k s
unfolding round iota
with_constant s k e f = f ∙ ap (λ (w : ℕ). add_first w (chi (pi (rho (theta s))))) e
