-- Bytes written one after the other into a buffer, which is otherwise as before.
-- Assumes nothing.
use Rattle.std.specs.Prelude.{◌≡◌, List, ◌++◌, ℕ, ◌+◌, length, take, drop}

-- the bytes bs are written from `at` to at', and past them all is as before
pub record Wrote (pb pb' : List ℕ) (at at' : ℕ) (bs : List ℕ) : Type 0 where
  pub ends : at' ≡ at + length bs
  pub front : take at' pb' ≡ take at pb ++ bs
  pub back : drop at' pb' ≡ drop at' pb

-- of `total`, `rest` is still to be written
pub record Writing (pb₀ pb : List ℕ) (at₀ at : ℕ) (rest total : List ℕ) : Type 0 where
  pub ends : at + length rest ≡ at₀ + length total
  pub front : take at pb ++ rest ≡ take at₀ pb₀ ++ total
  pub back : drop at pb ≡ drop at pb₀
