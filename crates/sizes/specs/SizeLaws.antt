-- Rounds are never more than the limit, 2 ^ n rows take n of them, and no second size fits.
-- Assumes nothing.
use Rattle.std.specs.Prelude.{◌≡◌, refl, Bool, true, false, cond, ◌||◌, List, ℕ, zero, suc, ◌+◌, ◌*◌, ◌%◌, ◌^◌, ◌<◌, ◌≤◌, eqb, leb, length}
use Rattle.std.proofs.Common.{sym, ◌∙◌, ap, ⊎_elim, eq-or-lt_of_le, arith, le-leb, eq-eqb, ne_eqb, eqb-true}
use Rattle.std.proofs.Math.Nat.{pow-succ', one-le-pow, pow-le-pow_right}
use Rattle.std.proofs.Math.Bridge.{le_by_compare, IsLe}
use Rattle.std.proofs.lemmas.Bool.{lt-leb}
use Rattle.gkr.specs.Tests.{pass, fail}
use Rattle.refusal.specs.Limits.{max_rounds}
use Rattle.sizes.specs.Sizes.{row_count, rounds_from, rounds_of, is_size}

-- never more than the limit
atmost : (b : Bool) (k x most : ℕ) → k ≤ most → x ≤ most → cond b k x ≤ most
atmost true k x most h l = h
atmost false k x most h l = l

sought : (left k count : ℕ) → rounds_from left k count ≤ k + left
unfolding rounds_from
sought zero k count = omega arith
sought (suc left) k count =
    let r = sought left (suc k) count in
    atmost (leb count (2 ^ k)) k (rounds_from left (suc k) count) (k + suc left) (omega arith) (omega arith)

pub few_rounds : (count : ℕ) → rounds_of count ≤ max_rounds
few_rounds count = let r = sought max_rounds 0 count in omega arith

-- 2 ^ n ROWS

positive : (n : ℕ) → 1 ≤ 2 ^ n
unfolding IsLe
positive n = one-le-pow n 2 (le_by_compare 1 2 tt)

grows : {k n : ℕ} → k ≤ n → 2 ^ k ≤ 2 ^ n
unfolding IsLe
grows h = pow-le-pow_right (le_by_compare 1 2 tt) h

pow_less : (k n : ℕ) → k < n → 2 ^ k < 2 ^ n
pow_less k n h = let g : 2 ^ suc k ≤ 2 ^ n = grows h in omega (arith, pow-succ' 2 k, positive k)

seek : (left k n : ℕ) → k ≤ n → n ≤ k + left → rounds_from left k (2 ^ n) ≡ n
unfolding rounds_from
seek zero k n h l = omega arith
seek (suc left) k n h l =
    ⊎_elim
    (λ (e : k ≡ n). pass _ _ _ (le-leb (2 ^ n) (2 ^ k) (omega (arith, ap (λ (j : ℕ). 2 ^ j) e))) ∙ e)
    (λ (q : k < n). fail _ _ _ (lt-leb (2 ^ n) (2 ^ k) (pow_less k n q)) ∙ seek left (suc k) n q (omega arith))
    (eq-or-lt_of_le h)

pub rounds_taken : (n : ℕ) → n ≤ max_rounds → rounds_of (2 ^ n) ≡ n
rounds_taken n h = seek max_rounds 0 n (omega arith) (omega arith)

either : (a b : Bool) → b ≡ true → (a || b) ≡ true
either true b h = refl
either false b h = h

pub size_taken : (n : ℕ) → n ≤ max_rounds → is_size (2 ^ n) ≡ true
unfolding is_size
size_taken n h = either (eqb (2 ^ n) 0) (eqb (2 ^ n) (2 ^ rounds_of (2 ^ n))) (eq-eqb (2 ^ n) (2 ^ rounds_of (2 ^ n)) (ap (λ k. 2 ^ k) (sym (rounds_taken n h))))

-- a size that is not 0 is the power of two
pub some_size : (count : ℕ) → is_size count ≡ true → (count ≡ 0 → ⊥) → count ≡ 2 ^ rounds_of count
unfolding is_size
some_size count h z = eqb-true _ _ (rw (ne_eqb count 0 z) at h)

module _ (rows : List ℕ) (n : ℕ) (h : length rows ≡ 8 * 2 ^ n) where
  pub whole : length rows % 8 ≡ 0
  whole = omega arith

  pub counted : row_count rows ≡ 2 ^ n
  counted = omega arith

-- NO SECOND SIZE

pub size_unique : (count : ℕ) {n m rows more : ℕ} → (n ≡ rounds_of count) × (rows ≡ 2 ^ n) × (n ≤ max_rounds) → (m ≡ rounds_of count) × (more ≡ 2 ^ m) × (m ≤ max_rounds) → (n ≡ m) × (rows ≡ more)
size_unique count h k = let e = h.0 ∙ sym k.0 in (e, h.1 ∙ ap (λ n. 2 ^ n) e ∙ sym k.1)
