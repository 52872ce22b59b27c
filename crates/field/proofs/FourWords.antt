-- Four words stored into a cell.
-- Assumes nothing.
use mathlib.Core.Path.{◌≡◌, sym, ◌∙◌, ap}
use mathlib.Core.List.{List, [], ◌∷◌}
use Prim.Native.Nat.{ℕ, suc, ◌+◌, ◌*◌, ◌<◌}
use native.Mathlib.Omega.{arith}
use lib.ListN.{length, get_or, set, length-set}
use lib.Seq.{get_or-set_same, get_or-set_other, sets}
use Rattle.field.specs.declared.Ext.{Ext}
use Rattle.field.specs.Element.{dec, Canon}
use Rattle.field.specs.ElementLaws.{enc_dec}
use Rattle.field.specs.Cells.{cell, Clean, Stored}
use Rattle.field.specs.CellLaws.{clean_set}

other : (s : List ℕ) (i j a : ℕ) → (j ≡ i → ⊥) → get_or (set s i a) j 0 ≡ get_or s j 0
other s i j a h = get_or-set_other s i j a 0 h

same : (s : List ℕ) (i a : ℕ) → i < length s → get_or (set s i a) i 0 ≡ a
same s i a h = get_or-set_same s i a 0 h

abbrev pub four : List ℕ → ℕ → Ext → List ℕ
four s i e = set (set (set (set s (4 * i) e.c0) (4 * i + 1) e.c1) (4 * i + 2) e.c2) (4 * i + 3) e.c3

-- the four words, one after the other
four_sets : (s : List ℕ) (i : ℕ) (e : Ext) → four s i e ≡ sets s (4 * i) (e.c0 ∷ e.c1 ∷ e.c2 ∷ e.c3 ∷ [])
four_sets s i e =
    let e1 : 4 * i + 1 ≡ suc (4 * i) = omega arith in
    let e2 : 4 * i + 2 ≡ suc (suc (4 * i)) = omega arith in
    let e3 : 4 * i + 3 ≡ suc (suc (suc (4 * i))) = omega arith in
    rw (e1, e2, e3)

-- a word that is none of the four
word_other : (s : List ℕ) (i k : ℕ) (e : Ext) → ((j : ℕ) → j < 4 → k ≡ 4 * i + j → ⊥) → get_or (four s i e) k 0 ≡ get_or s k 0
word_other s i k e h =
    let s1 = set s (4 * i) e.c0 in
    let s2 = set s1 (4 * i + 1) e.c1 in
    let s3 = set s2 (4 * i + 2) e.c2 in
    other s3 (4 * i + 3) k e.c3 (h 3 (omega arith)) ∙ other s2 (4 * i + 2) k e.c2 (h 2 (omega arith))
    ∙ other s1 (4 * i + 1) k e.c1 (h 1 (omega arith)) ∙ other s (4 * i) k e.c0 (λ q. h 0 (omega arith) (omega arith))

pub stored : (s : List ℕ) (i : ℕ) (e : Ext) → 4 * i + 3 < length s → Clean s → Canon e → Stored s (four s i e) i (dec e)
unfolding cell
stored s i e h q p =
    let k = 4 * i in
    let s1 = set s k e.c0 in
    let s2 = set s1 (k + 1) e.c1 in
    let s3 = set s2 (k + 2) e.c2 in
    let l1 : length s1 ≡ length s = simp length-set in
    let l2 : length s2 ≡ length s = simp length-set in
    let l3 : length s3 ≡ length s = simp length-set in
    record {
      exact = four_sets s i e ∙ ap (λ (r : Ext). sets s (4 * i) (r.c0 ∷ r.c1 ∷ r.c2 ∷ r.c3 ∷ [])) (sym (enc_dec p));
      clean = clean_set s3 (k + 3) e.c3 (clean_set s2 (k + 2) e.c2 (clean_set s1 (k + 1) e.c1 (clean_set s k e.c0 q p.c0) p.c1) p.c2) p.c3;
      here =
          cc (
            other s3 (k + 3) k e.c3 (λ q. omega arith) ∙ other s2 (k + 2) k e.c2 (λ q. omega arith) ∙ other s1 (k + 1) k e.c1 (λ q. omega arith) ∙ same s k e.c0 (omega arith),
            other s3 (k + 3) (k + 1) e.c3 (λ q. omega arith) ∙ other s2 (k + 2) (k + 1) e.c2 (λ q. omega arith) ∙ same s1 (k + 1) e.c1 (omega arith),
            other s3 (k + 3) (k + 2) e.c3 (λ q. omega arith) ∙ same s2 (k + 2) e.c2 (omega arith),
            same s3 (k + 3) e.c3 (omega arith),
          );
      rest = λ j n.
          cc (
            word_other s i (4 * j) e (λ m p q. n (omega arith)),
            word_other s i (4 * j + 1) e (λ m p q. n (omega arith)),
            word_other s i (4 * j + 2) e (λ m p q. n (omega arith)),
            word_other s i (4 * j + 3) e (λ m p q. n (omega arith)),
          );
    }
