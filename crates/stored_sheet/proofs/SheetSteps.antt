-- The answers of the sheet's checks, and the turns of the copy.
-- Assumes nothing.
use Rattle.std.specs.Prelude.{◌≡◌, refl, Ok, Err, Some, None, Bool, true, false, cond, List, [], ◌++◌, ℕ, ◌+◌, ◌*◌, ◌<◌, ◌≤◌, not, ltb, length, get_or, drop}
use Rattle.std.proofs.Common.{sym, ◌∙◌, ap, ap₂, arith, eq-eqb, ne_eqb, le-ltb, lt-ltb, get_or-drop}
use Rattle.refusal.specs.Limits.{max_rows}
use Rattle.refusal.specs.Tests.{Tested, passed, refused, first_of}
use Rattle.refusal.specs.TestWays.{next}
use Rattle.refusal.specs.declared.Refusal.{Refusal}
use Rattle.refusal.specs.declared.Refusal.TheVariants.{TooManyRows, NotPowerOfTwo, ShortRoom, BadWord, BadVersion, BadLength}
use Rattle.refusal.specs.declared.Words.TheVariants.{Rows}
use Rattle.wire.specs.Bytes.{words_from}
use Rattle.wire.specs.Words.{all_canonical, first_bad, bad_place}
use Rattle.wire.proofs.ByteLaws.{words_length}
use Rattle.wire.specs.PlaceLaws.{place_canonical, place_bad}
use Rattle.stored_sheet.specs.Sheet.{row_count, row_words}
use Rattle.stored_sheet.specs.SheetReads.{sized, tested, read_answer, SheetEnd, sheet_end, sheet_read}
use Rattle.stored_sheet.proofs.SheetLaws.{taken, read_done}

-- THE TESTS OF BOTH

module _ (n need room : ℕ) where
  -- without the words
  abbrev pub size : Tested
  size = first_of (sized n need room [])

  pub size_many : max_rows < n → size ≡ refused TooManyRows
  unfolding first_of
  size_many h = rw (lt-ltb max_rows n h)

  module _ (m : n ≤ max_rows) where
    pub size_odd : taken n ≡ false → size ≡ refused NotPowerOfTwo
    unfolding first_of
    size_odd p = rw (le-ltb max_rows n m, p)

    module _ (p : taken n ≡ true) where
      pub size_short : room < need → size ≡ refused ShortRoom
      unfolding first_of
      size_short h = rw (le-ltb max_rows n m, p, lt-ltb room need h)

      pub size_fits : need ≤ room → size ≡ passed
      unfolding first_of all_canonical
      size_fits h = rw (le-ltb max_rows n m, p, le-ltb room need h)

  -- with them: they come last
  module _ (ws : List ℕ) where
    in_turn : (a b c : Bool) (x y z : Refusal) (t : Tested) → cond a (refused x) (cond b (refused y) (cond c (refused z) t)) ≡ next (cond a (refused x) (cond b (refused y) (cond c (refused z) passed))) t
    in_turn true b c x y z t = refl
    in_turn false true c x y z t = refl
    in_turn false false true x y z t = refl
    in_turn false false false x y z t = refl

    words_last : first_of (sized n need room ws) ≡ next size (cond (not (all_canonical ws)) (refused (BadWord (first_bad ws) Rows)) passed)
    unfolding first_of all_canonical
    words_last = in_turn (ltb max_rows n) (not (taken n)) (ltb room need) TooManyRows NotPowerOfTwo ShortRoom (cond (not (all_canonical ws)) (refused (BadWord (first_bad ws) Rows)) passed)

    pub sized_refused : (e : Refusal) → size ≡ refused e → first_of (sized n need room ws) ≡ refused e
    sized_refused e h = words_last ∙ rw h

    pub sized_bad : (k : ℕ) → size ≡ passed → Some k ≡ bad_place ws → first_of (sized n need room ws) ≡ refused (BadWord k Rows)
    sized_bad k h e = let p = place_bad ws k e in words_last ∙ rw (h, p.1) (ap (λ j. refused (BadWord j Rows)) (sym p.0))

    pub sized_passed : size ≡ passed → None ≡ bad_place ws → first_of (sized n need room ws) ≡ passed
    sized_passed h e = words_last ∙ rw (h, place_canonical ws e)

-- THE READER
pub count_read : (bs : List ℕ) → get_or bs 1 0 * 256 + get_or bs 2 0 ≡ row_count bs
count_read bs = ap₂ (λ (x y : ℕ). x * 256 + y) (sym (get_or-drop 1 bs 0 0)) (sym (get_or-drop 1 bs 1 0))

module _ (bs : List ℕ) (room : ℕ) where
  pub no_version : (get_or bs 0 0 ≡ 1 → ⊥) → Err BadVersion ≡ read_answer bs room
  unfolding read_answer first_of
  no_version h = sym (rw (ne_eqb (get_or bs 0 0) 1 h))

  module _ (v : get_or bs 0 0 ≡ 1) where
    pub wrong_length : (length bs ≡ 3 + 32 * row_count bs → ⊥) → Err BadLength ≡ read_answer bs room
    unfolding read_answer first_of
    wrong_length h = sym (rw (eq-eqb (get_or bs 0 0) 1 v, ne_eqb (3 + 32 * row_count bs) (length bs) (λ e. h (sym e))))

    module _ (n : ℕ) (c : n ≡ row_count bs) (l : length bs ≡ 3 + 32 * n) where
      abbrev words : List ℕ
      words = words_from (8 * n) (drop 3 bs)

      inside : read_answer bs room ≡ tested n (first_of (sized n (8 * n) room words))
      unfolding read_answer first_of
      inside =
          rw (eq-eqb (get_or bs 0 0) 1 v, eq-eqb (3 + 32 * row_count bs) (length bs) (omega (arith, c, l)))
          (ap (λ k. tested k (first_of (sized k (8 * k) room (words_from (8 * k) (drop 3 bs))))) (sym c))

      pub read_refused : (e : Refusal) → size n (8 * n) room ≡ refused e → Err e ≡ read_answer bs room
      read_refused e h = sym (inside ∙ ap (tested n) (sized_refused n (8 * n) room words e h))

      pub read_bad : (k : ℕ) → size n (8 * n) room ≡ passed → Some k ≡ bad_place words → Err (BadWord k Rows) ≡ read_answer bs room
      read_bad k h e = sym (inside ∙ ap (tested n) (sized_bad n (8 * n) room words k h e))

      pub read_all : size n (8 * n) room ≡ passed → None ≡ bad_place words → Ok n ≡ read_answer bs room
      read_all h e = sym (inside ∙ ap (tested n) (sized_passed n (8 * n) room words h e))

-- what the reader ends with
module _ (bs old : List ℕ) (n : ℕ) (e : Ok n ≡ read_answer bs (length old)) where
  pub read_room : (3 + 4 * (8 * n) ≤ length bs) × (8 * n ≤ length old)
  read_room = let r = read_done bs (length old) n (sym e) in (omega (arith, r.size, r.count), omega (arith, r.room, r.count))

  pub read_rows : (new : List ℕ) → new ≡ words_from (8 * n) (drop 3 bs) ++ drop (8 * n) old → ◌≡◌ {A = SheetEnd} (record { answer = Ok n; buffer = new }) (sheet_read bs old)
  read_rows new f =
      let r = read_done bs (length old) n (sym e) in
      let w : words_from (8 * n) (drop 3 bs) ≡ row_words bs = ap (λ k. words_from (8 * k) (drop 3 bs)) (sym r.count) in
      let l : 8 * n ≡ length (row_words bs) = omega (arith, words_length (8 * row_count bs) (drop 3 bs), r.count) in
      let g : new ≡ row_words bs ++ drop (length (row_words bs)) old = f ∙ ap₂ (λ (x : List ℕ) (k : ℕ). x ++ drop k old) w l in
      ap (λ x. record { answer = Ok n; buffer = x }) g ∙ ap (λ x. sheet_end x (row_words bs) old) e
