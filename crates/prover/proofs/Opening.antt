-- What an open gate tells, and the room that a run then has.
-- Assumes nothing.
use mathlib.Core.Path.{◌≡◌, refl, sym, ◌∙◌, ap, subst}
use mathlib.Core.Bool.{Bool, true, false, ◌||◌}
use mathlib.Core.List.{List}
use Prim.Native.Nat.{ℕ, zero, suc, ◌+◌, ◌*◌, ◌-◌, ◌/◌, ◌%◌, ◌^◌, ◌≤◌}
use native.Mathlib.Omega.{arith}
use borrow.Author.Tests.{not-false, ltb-false, eqb-true}
use lib.Dec.{ltb}
use lib.ListN.{length, take}
use Rattle.field.specs.Cells.{Clean}
use Rattle.gkr.specs.Sizes as Sizes
use Rattle.gkr.specs.Tests.{fail}
use Rattle.refusal.specs.declared.Proving.{Proving}
use Rattle.refusal.specs.Tests.{passed}
use Rattle.refusal.specs.TestLaws.{passed_all}
use Rattle.wire.specs.WordLaws.{canonical_below}
use Rattle.prover_rounds.specs.Layers.{log_up_to, used_up_to}
use Rattle.sizes.specs.Sizes.{row_count, rounds_from, rounds_of, needed_words, log_room, work_room}
use Rattle.sizes.specs.SizeLaws.{few_rounds, some_size}
use Rattle.prover_gate.specs.declared.Rooms.{Rooms}
use Rattle.prover_gate.specs.Refusals.{Call, rooms, short_room, tests, first_refusal}
use Rattle.prover.specs.Inner.{Room, Opens}

-- A GATE THAT IS OPEN

or_left : (a b : Bool) → (a || b) ≡ false → a ≡ false
or_left true b h = h
or_left false b h = refl

or_right : (a b : Bool) → (a || b) ≡ false → b ≡ false
or_right true b h = let z : ◌≡◌ {A = ℕ} 0 1 = cc in absurd (omega arith)
or_right false b h = h

pub gate_opens : (c : Call) (r : Rooms) → first_refusal c r ≡ passed → Opens c.rows c.modes c.challenges r (rounds_of (row_count c.rows))
unfolding first_refusal short_room
gate_opens c r h =
    let n = rounds_of (row_count c.rows) in
    let p1 = passed_all (tests c r) h in
    let p3 = p1.1.1 in
    let p5 = p3.1.1 in
    let s1 : short_room c.modes.assert_zero c.modes.sized n r ≡ false = p5.0 in
    let s2 = or_right (ltb r.proof (Sizes.proof_bytes n)) _ s1 in
    let s3 = or_right (ltb r.point (Sizes.point_words n)) _ s2 in
    let e : length c.rows % 8 ≡ 0 = eqb-true _ _ (not-false _ p1.0) in
    record {
      rounds = refl;
      few = few_rounds (row_count c.rows);
      words = omega arith;
      all = some_size (row_count c.rows) (not-false _ p3.0);
      challenges = ltb-false _ _ p3.1.0;
      proof = ltb-false _ _ (or_left (ltb r.proof (Sizes.proof_bytes n)) _ s1);
      point = ltb-false _ _ (or_left (ltb r.point (Sizes.point_words n)) _ s2);
      log = ltb-false _ _ (or_left (ltb r.log (log_room c.modes.assert_zero c.modes.sized n)) _ s3);
      work = ltb-false _ _ (or_right (ltb r.log (log_room c.modes.assert_zero c.modes.sized n)) _ s3);
      clean = record { below = canonical_below c.rows (not-false _ p5.1.0) };
      supplied = record { below = canonical_below _ (not-false _ p5.1.1.0) };
    }

-- THE ROOM OF A RUN

pub log_sum : (n : ℕ) → log_up_to n ≡ 8 * (n * n) + 16 * n
unfolding log_up_to
log_sum zero = refl
log_sum (suc n) = omega (arith, log_sum n)

used_sum : (n : ℕ) → 2 * used_up_to n ≡ 3 * n + n * n
unfolding used_up_to
used_sum zero = refl
used_sum (suc n) = omega (arith, used_sum n)

used_needed : (m : ℕ) → used_up_to (suc m) ≡ Sizes.challenges (suc m) + 1
used_needed m =
    let e : m ≡ suc m - 1 = omega arith in
    let h : used_up_to (suc m) ≡ 2 * suc m - 1 + suc m * m / 2 + 1 = omega (arith, used_sum (suc m)) in
    h ∙ ap (λ k. 2 * suc m - 1 + suc m * k / 2 + 1) e

-- over the needed parts of challenges, point and workspace
module _ (rows : List ℕ) (modes : Proving) (ch : List ℕ) (r : Rooms) where
  pub run_room : (n need w : ℕ) {c p x l k : ℕ} → Opens rows modes ch r n → (n ≡ 0 → ⊥) → need ≡ needed_words modes.drawn n → w ≡ work_room n
      → c ≡ need → p ≡ r.proof → x ≡ 4 * n → l ≡ r.log → k ≡ w → Room modes n c (rooms p x l k)
  run_room zero need w O z d we ec ep ex el ew = absurd (z refl)
  run_room (suc m) need w O z d we ec ep ex el ew = record {
    some = omega arith;
    few = O.few;
    proof = let h = O.proof in omega arith;
    point = ex;
    log = let h = O.log in omega (arith, log_sum (suc m));
    used = λ h. omega (arith, used_needed m, d ∙ fail _ _ _ h);
    work = ew ∙ we;
  }

  pub rows_room : {n : ℕ} → Opens rows modes ch r n → (n ≡ 0 → ⊥) → 8 * 2 ^ n ≤ length rows
  unfolding rounds_from
  rows_room O z =
      let w = O.words in
      let q = O.all (λ h. z (O.rounds ∙ ap rounds_of h)) ∙ ap (λ k. 2 ^ k) (sym O.rounds) in
      omega (arith, w, q)

  -- the needed parts are there
  pub parts_room : {n need w : ℕ} → Opens rows modes ch r n → need ≡ needed_words modes.drawn n → w ≡ work_room n → (need ≤ length ch) × (4 * n ≤ r.point) × (w ≤ r.work)
  parts_room O d we = (subst (λ k. k ≤ length ch) (sym d) O.challenges, O.point, subst (λ k. k ≤ r.work) (sym we) O.work)

  pub supplied_part : {n need : ℕ} → Opens rows modes ch r n → need ≡ needed_words modes.drawn n → Clean (take need ch)
  supplied_part O d = subst (λ k. Clean (take k ch)) (sym d) O.supplied
