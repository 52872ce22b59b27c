-- The three sums of a sub-round, from entries read off five columns.
-- Assumes nothing.
use mathlib.Core.Path.{◌≡◌}
use mathlib.Core.List.{List}
use Prim.Native.Nat.{ℕ, ◌+◌, ◌*◌, ◌≤◌}
use native.Mathlib.Omega.{arith}
use Rattle.field.specs.Ext as E
use Rattle.field.specs.Element.{dec}
use Rattle.field.specs.ElementLaws.{is_eq}
use Rattle.field.specs.Cells.{cell}
use Rattle.multilinear.specs.Table as Table
use Rattle.multilinear.specs.RoundSum.{Claims}
use Rattle.step.specs.declared.Entry.{Entry}
use Rattle.step.specs.declared.Three.{Three}
use Rattle.step.specs.Values.{IsEntry, IsThree, dec_claims, summand_at, two, three}
use Rattle.step.proofs.Pairs.{entry_claims}
use Rattle.columns.specs.Passes.{summand_of, Room, Summands, Sums}
use Rattle.columns.proofs.Turns.{sum_none, sum_turn}

module _ (eq : List ℕ) (pq : ℕ → Claims E.Ext) (l : E.Ext) where
  -- a pair's summand at x
  summand_is : (x : E.Ext) (y : ℕ) {e0 e1 : E.Ext} {c0 c1 : Claims E.Ext} → e0 ≡ cell eq (2 * y) → e1 ≡ cell eq (2 * y + 1) → c0 ≡ pq (2 * y) → c1 ≡ pq (2 * y + 1)
      → summand_at x l e0 e1 c0 c1 ≡ summand_of eq pq l x y
  unfolding Table.fold
  summand_is x y h0 h1 k0 k1 = λ i. summand_at x l (h0 i) (h1 i) (k0 i) (k1 i)

  pub pair_summands : (y : ℕ) (t0 t1 : Entry) (r : Three) → IsEntry t0 (cell eq (2 * y)) (pq (2 * y)) → IsEntry t1 (cell eq (2 * y + 1)) (pq (2 * y + 1))
      → IsThree r (summand_at E.one l (dec t0.e) (dec t1.e) (dec_claims t0) (dec_claims t1)) (summand_at two l (dec t0.e) (dec t1.e) (dec_claims t0) (dec_claims t1)) (summand_at three l (dec t0.e) (dec t1.e) (dec_claims t0) (dec_claims t1))
      → Summands r y eq pq l
  pair_summands y t0 t1 r h0 h1 s =
      let k0 = entry_claims t0 _ _ h0 in
      let k1 = entry_claims t1 _ _ h1 in
      record {
        s1 = is_eq s.s1 (summand_is E.one y h0.e.value h1.e.value k0 k1);
        s2 = is_eq s.s2 (summand_is two y h0.e.value h1.e.value k0 k1);
        s3 = is_eq s.s3 (summand_is three y h0.e.value h1.e.value k0 k1);
      }

  -- the sums, one pair more
  pub sums_none : (r : Three) → IsThree r E.nil E.nil E.nil → Sums r 0 eq pq l
  sums_none r h = record {
    s1 = is_eq h.s1 (sum_none (summand_of eq pq l E.one));
    s2 = is_eq h.s2 (sum_none (summand_of eq pq l two));
    s3 = is_eq h.s3 (sum_none (summand_of eq pq l three));
  }

  pub sums_turn : (y : ℕ) (a b r : Three) → Sums a y eq pq l → Summands b y eq pq l
      → IsThree r (E.add (dec a.s1) (dec b.s1)) (E.add (dec a.s2) (dec b.s2)) (E.add (dec a.s3) (dec b.s3)) → Sums r (y + 1) eq pq l
  sums_turn y a b r ha hb hr = record {
    s1 = record { canon = hr.s1.canon; value = sum_turn (summand_of eq pq l E.one) y ha.s1.value hb.s1.value hr.s1.value };
    s2 = record { canon = hr.s2.canon; value = sum_turn (summand_of eq pq l two) y ha.s2.value hb.s2.value hr.s2.value };
    s3 = record { canon = hr.s3.canon; value = sum_turn (summand_of eq pq l three) y ha.s3.value hb.s3.value hr.s3.value };
  }

-- fewer words of five columns
pub room_less : (m n : ℕ) {e a b c d : List ℕ} → m ≤ n → Room n e a b c d → Room m e a b c d
room_less m n l h = record {
  eq = omega arith;
  p0 = omega arith;
  q0 = omega arith;
  p1 = omega arith;
  q1 = omega arith;
  eq_clean = h.eq_clean;
  p0_clean = h.p0_clean;
  q0_clean = h.q0_clean;
  p1_clean = h.p1_clean;
  q1_clean = h.q1_clean;
}
