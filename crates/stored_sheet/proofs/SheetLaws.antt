-- Sheets: what a sheet that is read says of its bytes, and that rows and their stored form are one thing.
-- Assumes nothing.
use Rattle.std.specs.Prelude.{Result, Ok, Err, ◌≡◌, refl, Bool, true, cond, ℕ, ◌+◌, ◌*◌, ◌/◌, ◌%◌, ◌<◌, ◌≤◌, eqb, get_or, take, drop}
use Rattle.std.proofs.Common.{sym, ◌∙◌, ap₂, add-one, arith, eqb-true, eq-eqb, ltb-false, le-ltb, length-drop, length-append, drop-cons, drop-drop, take_all}
use Rattle.std.proofs.Math.Path.{ap}
use mathlib.Core.List.{List, [], ◌∷◌, ◌++◌, append-nil}
use Rattle.std.proofs.lemmas.Bool.{not-false}
use Rattle.std.proofs.Math.ListN.{length}
use Rattle.refusal.specs.Limits.{max_rows}
use Rattle.refusal.specs.Powers.{power_of_two}
use Rattle.refusal.specs.declared.Refusal.{Refusal}
use Rattle.refusal.specs.Tests.{Test, Tested, passed, refused, first_of}
use Rattle.refusal.specs.TestLaws.{NoneMet, passed_all}
use Rattle.wire.specs.Bytes.{be2, words_from, bytes_of, Bytes}
use Rattle.wire.specs.Words.{all_canonical}
use Rattle.wire.proofs.ByteLaws.{bytes_drop, bytes_back, bytes_length, half_back, half_digits, words_back, words_length}
use Rattle.stored_sheet.specs.Sheet.{sheet, row_count, row_words}
use Rattle.stored_sheet.specs.SheetReads.{tested, read_answer, write_answer, SheetEnd, sheet_end, sheet_read}

-- done has passed all tests
was_passed : (n k : ℕ) (t : Tested) → tested n t ≡ Ok k → (t ≡ passed) × (n ≡ k)
was_passed n k passed h = (refl, cc h)
was_passed n k (refused e) h = absurd (let z : ◌≡◌ {A = ℕ} 0 1 = cc in omega arith)

tests_passed : (n k : ℕ) (ts : List Test) → tested n (first_of ts) ≡ Ok k → NoneMet ts × (n ≡ k)
tests_passed n k ts h = let w = was_passed n k (first_of ts) h in (passed_all ts w.0, w.1)

-- the test on a row count
abbrev pub taken : ℕ → Bool
taken n = cond (eqb n 0) true (power_of_two n)

-- a sheet that is read
pub record IsRead (bs : List ℕ) (space n : ℕ) : Type 0 where
  pub version : get_or bs 0 0 ≡ 1
  pub size : 3 + 32 * row_count bs ≡ length bs
  pub most : row_count bs ≤ max_rows
  pub power : taken (row_count bs) ≡ true
  pub room : 8 * row_count bs ≤ space
  pub canonical : all_canonical (row_words bs) ≡ true
  pub count : row_count bs ≡ n

pub read_done : (bs : List ℕ) (room n : ℕ) → read_answer bs room ≡ Ok n → IsRead bs room n
unfolding read_answer
read_done bs room n h =
    let (none, count) = tests_passed (row_count bs) n _ h in
    let sizes = none.1.1 in
    record {
      version = eqb-true _ _ (not-false _ none.0);
      size = eqb-true _ _ (not-false _ none.1.0);
      most = ltb-false _ _ sizes.0;
      power = not-false _ sizes.1.0;
      room = ltb-false _ _ sizes.1.1.0;
      canonical = not-false _ sizes.1.1.1.0;
      count = count;
    }

pub read_ok : (bs : List ℕ) (room n : ℕ) → IsRead bs room n → read_answer bs room ≡ Ok n
unfolding read_answer first_of
read_ok bs room n r =
    rw (eq-eqb (get_or bs 0 0) 1 r.version, eq-eqb (3 + 32 * row_count bs) (length bs) r.size, le-ltb max_rows (row_count bs) r.most, r.power, le-ltb room (8 * row_count bs) r.room, r.canonical) (ap Ok r.count)

-- what is read of a sheet, by the reader's end: its buffer begins with the rows
answered : (a : Result ℕ Refusal) (ws old : List ℕ) → (sheet_end a ws old).answer ≡ a
answered (Ok n) ws old = refl
answered (Err e) ws old = refl

module _ (bs old new : List ℕ) (n : ℕ) {r : Result ℕ Refusal} (e : ◌≡◌ {A = SheetEnd} (record { answer = r; buffer = new }) (sheet_read bs old)) (d : r ≡ Ok n) where
  done : read_answer bs (length old) ≡ Ok n
  done = sym (answered (read_answer bs (length old)) (row_words bs) old) ∙ sym (ap (λ o. o.answer) e) ∙ d

  pub is_read : IsRead bs (length old) n
  is_read = read_done bs (length old) n done

  pub read_front : new ≡ row_words bs ++ drop (length (row_words bs)) old
  read_front = ap (λ o. o.buffer) e ∙ ap (λ x. (sheet_end x (row_words bs) old).buffer) done

  pub read_long : length (row_words bs) ≡ 8 * n
  read_long = words_length (8 * row_count bs) (drop 3 bs) ∙ ap (λ k. 8 * k) is_read.count

  pub read_most : n ≤ max_rows
  read_most = omega (arith, is_read.most, is_read.count)

  pub read_fits : 8 * n ≤ length new
  read_fits = let l = ap length read_front ∙ length-append (row_words bs) (drop (length (row_words bs)) old) in omega (arith, read_long, l)

-- rows that are written
pub record IsWritten (ws : List ℕ) (space n : ℕ) : Type 0 where
  pub whole : length ws % 8 ≡ 0
  pub most : length ws / 8 ≤ max_rows
  pub power : taken (length ws / 8) ≡ true
  pub room : 3 + 4 * length ws ≤ space
  pub canonical : all_canonical ws ≡ true
  pub size : 3 + 4 * length ws ≡ n

pub write_done : (ws : List ℕ) (room n : ℕ) → write_answer ws room ≡ Ok n → IsWritten ws room n
unfolding write_answer
write_done ws room n h =
    let (none, size) = tests_passed (3 + 4 * length ws) n _ h in
    let sizes = none.1 in
    record {
      whole = eqb-true _ _ (not-false _ none.0);
      most = ltb-false _ _ sizes.0;
      power = not-false _ sizes.1.0;
      room = ltb-false _ _ sizes.1.1.0;
      canonical = not-false _ sizes.1.1.1.0;
      size = size;
    }

pub write_ok : (ws : List ℕ) (room n : ℕ) → IsWritten ws room n → write_answer ws room ≡ Ok n
unfolding write_answer first_of
write_ok ws room n r =
    rw (eq-eqb (length ws % 8) 0 r.whole, le-ltb max_rows (length ws / 8) r.most, r.power, le-ltb room (3 + 4 * length ws) r.room, r.canonical) (ap Ok r.size)

-- BYTES, READ, AND WRITTEN AGAIN
next : (bs : List ℕ) (i : ℕ) → i < length bs → get_or bs i 0 ∷ drop (i + 1) bs ≡ drop i bs
next bs i h = sym (drop-cons bs i 0 h ∙ ap (λ k. get_or bs i 0 ∷ drop k bs) (sym (add-one i)))

front_two : (l : List ℕ) → 2 ≤ length l → take 2 l ++ drop 2 l ≡ l
front_two [] h = absurd (omega arith)
front_two (a ∷ []) h = absurd (omega arith)
front_two (a ∷ b ∷ l) h = refl

pub rows_sheet : (bs : List ℕ) → Bytes bs → get_or bs 0 0 ≡ 1 → 3 + 32 * row_count bs ≡ length bs → sheet (row_words bs) ≡ bs
unfolding sheet
rows_sheet bs b v s =
    let N = row_count bs in
    let l = words_length (8 * N) (drop 3 bs) in
    let e : length (row_words bs) / 8 ≡ N = omega (arith, l) in
    let d : length (drop 3 bs) ≡ 4 * (8 * N) = omega (arith, length-drop 3 bs, s) in
    let w : bytes_of (row_words bs) ≡ drop 3 bs = bytes_back (8 * N) (drop 3 bs) (bytes_drop 3 bs b) (omega (arith, d)) ∙ take_all (4 * (8 * N)) (drop 3 bs) (omega (arith, d)) in
    let h : be2 (length (row_words bs) / 8) ≡ take 2 (drop 1 bs) = ap be2 e ∙ half_digits (drop 1 bs) (bytes_drop 1 bs b) (omega (arith, length-drop 1 bs, s)) in
    let t : take 2 (drop 1 bs) ++ drop 3 bs ≡ drop 1 bs = ap (λ x. take 2 (drop 1 bs) ++ x) (sym (drop-drop 2 1 bs)) ∙ front_two (drop 1 bs) (omega (arith, length-drop 1 bs, s)) in
    ap₂ (λ (x y : List ℕ). 1 ∷ (x ++ y)) h w ∙ ap (λ x. 1 ∷ x) t ∙ ap (λ x. x ∷ drop 1 bs) (sym v) ∙ next bs 0 (omega (arith, s))

-- ROWS, WRITTEN, AND READ AGAIN
module _ (ws : List ℕ) (w : length ws % 8 ≡ 0) where
  pub sheet_count : row_count (sheet ws) ≡ length ws / 8
  unfolding sheet
  sheet_count = half_back (length ws / 8) (bytes_of ws)

  pub sheet_rows : row_words (sheet ws) ≡ ws
  unfolding sheet
  sheet_rows =
      let e : 8 * (length ws / 8) ≡ length ws = omega (arith, w) in
      ap (λ n. words_from (8 * n) (bytes_of ws)) sheet_count ∙ ap (λ n. words_from n (bytes_of ws)) e ∙ ap (words_from (length ws)) (sym (append-nil (bytes_of ws))) ∙ words_back ws []

pub sheet_size : (ws : List ℕ) → length (sheet ws) ≡ 3 + 4 * length ws
unfolding sheet
sheet_size ws = omega (arith, bytes_length ws)

first : (ws : List ℕ) → get_or (sheet ws) 0 0 ≡ 1
unfolding sheet
first ws = refl

-- what the writer writes, the reader reads: the same rows, into any buffer that has room for them
pub sheet_read_is : (ws : List ℕ) (room n : ℕ) → IsWritten ws room n → (old : List ℕ) → length ws ≤ length old
    → sheet_read (sheet ws) old ≡ record { answer = Ok (length ws / 8); buffer = ws ++ drop (length ws) old }
sheet_read_is ws room n r old h =
    let c = sheet_count ws r.whole in
    let s = sheet_rows ws r.whole in
    let f : get_or (sheet ws) 0 0 ≡ 1 = first ws in
    let k : IsRead (sheet ws) (length old) (length ws / 8) =
    record {
      version = f;
      size = omega (arith, c, sheet_size ws, r.whole);
      most = omega (arith, c, r.most);
      power = ap taken c ∙ r.power;
      room = omega (arith, c, h, r.whole);
      canonical = ap all_canonical s ∙ r.canonical;
      count = c;
    } in
    rw (read_ok (sheet ws) (length old) (length ws / 8) k, s)
