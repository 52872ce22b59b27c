-- What is known of the lists where a helper is not refused.
-- Assumes nothing.
use Rattle.std.specs.Prelude.{Ok}
use mathlib.Core.Path.{◌≡◌, ◌∙◌, ap}
use mathlib.Core.Bool.{Bool, true, ◌&&◌}
use mathlib.Core.List.{List}
use Prim.Native.Nat.{ℕ, ◌*◌, ◌/◌, ◌%◌, ◌^◌, ◌≤◌}
use native.Mathlib.Omega.{arith}
use borrow.Author.Tests.{eqb-true, leb-true}
use lib.Dec.{eqb}
use lib.ListN.{length}
use Rattle.field.specs.declared.Ext.{Ext}
use Rattle.field.specs.Element.{Canon, canon_words}
use Rattle.field.specs.ElementLaws.{canon_true}
use Rattle.field.specs.ExtRing.{both}
use Rattle.field.specs.Cells.{Clean}
use Rattle.wire.specs.Words.{all_canonical}
use Rattle.wire.specs.WordLaws.{canonical_below}
use Rattle.columns.specs.Powers.{variables_of}
use Rattle.columns.specs.PowerLaws.{variables_of_is}
use Rattle.columns.specs.Passes.{Room}
use Rattle.poly.specs.Checks.{refusal, whole, count}
use Rattle.poly.proofs.CheckLaws.{passed}
use Rattle.poly.specs.Evaluations.{eq_sizes, eq_refusal, mle_sizes, mle_refusal, horner_sizes}
use Rattle.poly.specs.Folds.{fold_sizes, fold_refusal, round_sizes, round_refusal, all_five}

pub clean_of : (ws : List ℕ) → all_canonical ws ≡ true → Clean ws
clean_of ws h = record { below = canonical_below ws h }

whole_of : (n : ℕ) → eqb (n % 4) 0 ≡ true → n ≡ 4 * (n / 4)
whole_of n h = let z : n % 4 ≡ 0 = eqb-true (n % 4) 0 h in omega arith

pub record Pair (x y : List ℕ) : Type 0 where
  pub same : length x ≡ length y
  pub first : Clean x
  pub second : Clean y

pub eq_open : (x y : List ℕ) → eq_refusal x y ≡ Ok tt → Pair x y
eq_open x y h =
    let p = passed (eq_sizes x y) _ h in
    let w = both (all_canonical x) (all_canonical y) p.words in
    record {
      same = eqb-true (length x) (length y) (both (eqb (length x) (length y)) (whole x) p.lists).0;
      first = clean_of x w.0;
      second = clean_of y w.1;
    }

pub record Table (t x : List ℕ) : Type 0 where
  pub entries : length t ≡ 4 * 2 ^ count x
  pub table : Clean t
  pub point : Clean x

pub mle_open : (t x : List ℕ) → mle_refusal t x ≡ Ok tt → Table t x
mle_open t x h =
    let p = passed (mle_sizes t x) _ h in
    let w = both (all_canonical t) (all_canonical x) p.words in
    let l = both (whole t) (whole x) p.lists in
    record {
      entries = whole_of (length t) l.0 ∙ ap (λ n. 4 * n) (eqb-true (count t) (2 ^ count x) p.table);
      table = clean_of t w.0;
      point = clean_of x w.1;
    }

pub record Beside (ws : List ℕ) (e : Ext) : Type 0 where
  pub list : Clean ws
  pub element : Canon e

beside : (ws : List ℕ) (e : Ext) → (all_canonical ws && canon_words e) ≡ true → Beside ws e
beside ws e h = let w = both (all_canonical ws) (canon_words e) h in record { list = clean_of ws w.0; element = canon_true e w.1 }

pub horner_open : (entries : ℕ) (lists : Bool) (ws : List ℕ) (e : Ext) → refusal (horner_sizes lists entries) (all_canonical ws && canon_words e) ≡ Ok tt → Beside ws e
horner_open entries lists ws e h = beside ws e (passed (horner_sizes lists entries) _ h).words

pub record Folding (source target : List ℕ) (r : Ext) : Type 0 where
  pub whole : length source ≡ 4 * count source
  pub room : 4 * (count source / 2) ≤ length target
  pub list : Clean source
  pub element : Canon r

pub fold_open : (s d : List ℕ) (r : Ext) → fold_refusal s d r ≡ Ok tt → Folding s d r
fold_open s d r h =
    let p = passed (fold_sizes s d) _ h in
    let b = beside s r p.words in
    record { whole = whole_of (length s) p.lists; room = leb-true (4 * (count s / 2)) (length d) p.room; list = b.list; element = b.element }

pub record Five (e a b c d : List ℕ) (l : Ext) : Type 0 where
  pub whole : length e ≡ 4 * count e
  pub power : count e ≡ 2 ^ variables_of (count e)
  pub columns : Room (length e) e a b c d
  pub lambda : Canon l

pub round_open : (e a b c d : List ℕ) (l : Ext) → round_refusal e a b c d l ≡ Ok tt → Five e a b c d l
round_open e a b c d l h =
    let p = passed (round_sizes e a b c d) _ h in
    let w = both (all_five e a b c d) (canon_words l) p.words in
    let w4 = both (((all_canonical e && all_canonical a) && all_canonical b) && all_canonical c) (all_canonical d) w.0 in
    let w3 = both ((all_canonical e && all_canonical a) && all_canonical b) (all_canonical c) w4.0 in
    let w2 = both (all_canonical e && all_canonical a) (all_canonical b) w3.0 in
    let w1 = both (all_canonical e) (all_canonical a) w2.0 in
    let l1 = both (eqb (length e) (length a)) _ p.lists in
    let l2 = both (eqb (length e) (length b)) _ l1.1 in
    let l3 = both (eqb (length e) (length c)) _ l2.1 in
    let l4 = both (eqb (length e) (length d)) (whole e) l3.1 in
    let ea = eqb-true (length e) (length a) l1.0 in
    let eb = eqb-true (length e) (length b) l2.0 in
    let ec = eqb-true (length e) (length c) l3.0 in
    let ed = eqb-true (length e) (length d) l4.0 in
    record {
      whole = whole_of (length e) l4.1;
      power = variables_of_is (count e) p.power p.entries;
      columns = record {
        eq = omega arith;
        p0 = omega (arith, ea);
        q0 = omega (arith, eb);
        p1 = omega (arith, ec);
        q1 = omega (arith, ed);
        eq_clean = clean_of e w1.0;
        p0_clean = clean_of a w1.1;
        q0_clean = clean_of b w2.1;
        p1_clean = clean_of c w3.1;
        q1_clean = clean_of d w4.1;
      };
      lambda = canon_true l w.1;
    }
