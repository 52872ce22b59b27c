-- A sheet that is taken passes the prover's gate.
-- Assumes nothing.
use mathlib.Core.Path.{◌≡◌, refl, ◌∙◌, ap}
use mathlib.Core.Bool.{Bool, true, false, not, ◌&&◌}
use Prim.Native.Nat.{ℕ, suc, ◌≤◌}
use native.Mathlib.Omega.{arith}
use borrow.Author.Tests.{le-ltb, eq-eqb}
use lib.Dec.{ltb}
use lib.ListN.{length, take}
use Rattle.refusal.specs.Limits.{max_rows}
use Rattle.refusal.specs.Tests.{passed}
use Rattle.refusal.specs.TestLaws.{all_passed}
use Rattle.wire.specs.Words.{all_canonical}
use Rattle.sizes.specs.Sizes.{row_count, rounds_of, is_size, needed_words}
use Rattle.prover_gate.specs.Refusals.{Call, short_room, lowest, tests, first_refusal}
use Rattle.refusal.specs.TestWays.{both}
use Rattle.prover.specs.Proved.{Buffers, rooms_of}
use Rattle.prover.proofs.Modes.{lowest_none}
use Rattle.verifier.specs.Verified.{Lent}
use Rattle.agreement.specs.Demand3.{Taken, Room}
use Rattle.sizes.specs.SizeLaws.{rounds_taken, size_taken, whole, counted}
use Rattle.sizes.specs.LimitLaws.{rows_taken}

module _ (c : Call) (m : ℕ) (b : Buffers) (v : Lent) (h : Taken c (suc m)) (r : Room c.modes.assert_zero c.modes.sized (suc m) b v) where
  rounds_are : rounds_of (row_count c.rows) ≡ suc m
  rounds_are = ap rounds_of (counted c.rows (suc m) h.rows) ∙ rounds_taken (suc m) h.few

  whole_size : is_size (row_count c.rows) ≡ true
  whole_size = ap is_size (counted c.rows (suc m) h.rows) ∙ size_taken (suc m) h.few

  within : row_count c.rows ≤ max_rows
  within = omega (arith, counted c.rows (suc m) h.rows, rows_taken (suc m) h.few)

  checked : (live : Bool) → c.modes.live ≡ live → (live && ltb (lowest c.rows (row_count c.rows) 0) (row_count c.rows)) ≡ false
  checked true e =
      let k = counted c.rows (suc m) h.rows in
      let l = lowest_none c.rows (row_count c.rows) 0 (λ j q. h.checked e j (omega arith)) in
      let past : row_count c.rows ≤ lowest c.rows (row_count c.rows) 0 = omega (arith, l) in
      le-ltb _ _ past
  checked false e = refl

  pub opens : first_refusal c (rooms_of b) ≡ passed
  unfolding first_refusal
  opens =
      let n = rounds_are in
      all_passed (tests c (rooms_of b))
      (both (ap not (eq-eqb _ _ (whole c.rows (suc m) h.rows)))
      (both (le-ltb _ _ within)
      (both (ap not whole_size)
      (both (ap (λ k. ltb (length c.challenges) (needed_words c.modes.drawn k)) n ∙ le-ltb _ _ h.enough)
      (both (ap (λ k. short_room c.modes.assert_zero c.modes.sized k (rooms_of b)) n ∙ r.prover)
      (both (ap not h.valid_rows)
      (both (ap (λ k. not (all_canonical (take (needed_words c.modes.drawn k) c.challenges))) n ∙ ap not h.valid_challenges)
      (both (checked c.modes.live refl) tt))))))))

  pub rounds_taken_are : rounds_of (row_count c.rows) ≡ suc m
  rounds_taken_are = rounds_are
