-- m < n as a fact that computes: at numerals it is `Unit`, so that two records that hold it are equal by computation.
-- Assumes nothing.
use Prim.Native.Nat.compare
use Prim.Native.Nat.{ℕ, zero, suc, ◌<◌, compare, Ordering, zero-le, suc-le-suc}
use Rattle.std.specs.Prelude.{refl}
use Rattle.std.proofs.Common.{subst, not-suc-le-zero, le_of_suc-le-suc}
use Rattle.std.proofs.Math.Path.{subst⁻¹}

-- what the comparison says of a number below another
abbrev pub Lt : Ordering → Type 0
Lt Ordering.lt = Unit {0}
Lt Ordering.eq = ⊥
Lt Ordering.gt = ⊥

pub lt_compare : (m n : ℕ) → m < n → Lt (compare m n)
lt_compare m zero h = absurd (not-suc-le-zero h)
lt_compare zero (suc n) h = subst⁻¹ Lt (compare.zero-suc n) tt
lt_compare (suc m) (suc n) h = subst⁻¹ Lt (compare.suc-suc m n) (lt_compare m n (le_of_suc-le-suc h))

pub compare_lt : (m n : ℕ) → Lt (compare m n) → m < n
compare_lt zero zero h = absurd (subst Lt compare.zero-zero h)
compare_lt zero (suc n) h = suc-le-suc zero-le
compare_lt (suc m) zero h = absurd (subst Lt (compare.suc-zero m) h)
compare_lt (suc m) (suc n) h = suc-le-suc (compare_lt m n (subst Lt (compare.suc-suc m n) h))

pub lt_prop : (o : Ordering) → IsProp (Lt o)
lt_prop Ordering.lt = λ x y. refl
lt_prop Ordering.eq = λ x y. absurd x
lt_prop Ordering.gt = λ x y. absurd x
