-- What the evaluations answer, and what stands in their buffers afterwards, for every input.
-- Assumes nothing.
use Rattle.std.specs.Prelude.{Bool, true, ◌&&◌, List, ◌++◌, ℕ, ◌*◌, ◌^◌, eqb, leb, length, drop, Result, Ok, Err}
use Rattle.field.specs.Ext as E
use Rattle.field.specs.ExtRing.{ExtRing}
use Rattle.field.specs.declared.Ext.{Ext}
use Rattle.field.specs.Element.{dec, enc, canon_words}
use Rattle.field.specs.Cells.{cell, cells}
use Rattle.field.specs.Column.{flat}
use Rattle.wire.specs.Words.{all_canonical}
use Rattle.refusal.specs.declared.Refusal.{Refusal}
use Rattle.multilinear.specs.Table as Table
use Rattle.columns.specs.Tables as Tables
use Rattle.columns.specs.Passes.{base_cell}
use Rattle.poly.specs.Checks.{Sizes, refusal, whole, count}

-- the element's words, or the refusal
abbrev pub answer : Result (Unit {0}) Refusal → E.Ext → Result Ext Refusal
answer (Ok _) x = Ok (enc x)
answer (Err why) x = Err why

-- a refused call writes nothing
abbrev pub written : Result (Unit {0}) Refusal → (new old : List ℕ) → List ℕ
written (Ok _) new old = new
written (Err why) new old = old

-- the elements of a list, as a point
abbrev pub point : List ℕ → List E.Ext
point ws = cells ws 0 (count ws)

-- ---- eval_eq_mle: the product over the coordinates of x·y + (1 - x)·(1 - y)
abbrev pub eq_sizes : (x y : List ℕ) → Sizes
eq_sizes x y = record { lists = eqb (length x) (length y) && whole x; variables = count x; table = true; entries = 0; power = true; room = true }

abbrev pub eq_refusal : (x y : List ℕ) → Result (Unit {0}) Refusal
eq_refusal x y = refusal (eq_sizes x y) (all_canonical x && all_canonical y)

abbrev pub eval_eq_mle : (x y : List ℕ) → Result Ext Refusal
eval_eq_mle x y = answer (eq_refusal x y) (Table.eq ExtRing (point x) (point y))

-- ---- the value of a table t at the point x
abbrev pub mle_sizes : (t x : List ℕ) → Sizes
mle_sizes t x = record { lists = whole t && whole x; variables = count x; table = eqb (count t) (2 ^ count x); entries = count t; power = true; room = true }

abbrev pub mle_refusal : (t x : List ℕ) → Result (Unit {0}) Refusal
mle_refusal t x = refusal (mle_sizes t x) (all_canonical t && all_canonical x)

abbrev pub value_at : (t x : List ℕ) → Result Ext Refusal
value_at t x = answer (mle_refusal t x) (Table.value ExtRing (cell t) (point x))

-- eval_mle_evals_at_point: the value, and the table as it is left
pub record InPlace : Type 0 where
  pub answer : Result Ext Refusal
  pub table : List ℕ

abbrev pub eval_mle : (t x : List ℕ) → InPlace
eval_mle t x = record {
  answer = value_at t x;
  table = written (mle_refusal t x) (flat (Tables.overwrite ExtRing (count x) (cell x) (cell t)) (2 ^ count x)) t;
}

-- ---- evals_eq_hypercube: the weights of all indices at the point x, in front of what the target held
pub record Filled : Type 0 where
  pub outcome : Result (Unit {0}) Refusal
  pub target : List ℕ

abbrev pub cube_sizes : (x target : List ℕ) → Sizes
cube_sizes x target = record { lists = whole x; variables = count x; table = true; entries = 0; power = true; room = leb (4 * 2 ^ count x) (length target) }

abbrev pub cube_refusal : (x target : List ℕ) → Result (Unit {0}) Refusal
cube_refusal x target = refusal (cube_sizes x target) (all_canonical x)

abbrev pub evals_eq_hypercube : (x target : List ℕ) → Filled
evals_eq_hypercube x target = record {
  outcome = cube_refusal x target;
  target = written (cube_refusal x target) (flat (Table.weight ExtRing (point x)) (2 ^ count x) ++ drop (4 * 2 ^ count x) target) target;
}

-- ---- horner_eval: the sum of coefficient times power, with coefficients in the extension and in the base field
abbrev pub horner_sizes : (lists : Bool) (entries : ℕ) → Sizes
horner_sizes lists entries = record { lists = lists; variables = 0; table = true; entries = entries; power = true; room = true }

abbrev pub horner_refusal : (coeffs : List ℕ) (x : Ext) → Result (Unit {0}) Refusal
horner_refusal coeffs x = refusal (horner_sizes (whole coeffs) (count coeffs)) (all_canonical coeffs && canon_words x)

abbrev pub horner_eval : (coeffs : List ℕ) (x : Ext) → Result Ext Refusal
horner_eval coeffs x = answer (horner_refusal coeffs x) (Tables.polynomial ExtRing (count coeffs) (cell coeffs) (dec x))

abbrev pub horner_base_refusal : (coeffs : List ℕ) (x : Ext) → Result (Unit {0}) Refusal
horner_base_refusal coeffs x = refusal (horner_sizes true (length coeffs)) (all_canonical coeffs && canon_words x)

abbrev pub horner_eval_base : (coeffs : List ℕ) (x : Ext) → Result Ext Refusal
horner_eval_base coeffs x = answer (horner_base_refusal coeffs x) (Tables.polynomial ExtRing (length coeffs) (base_cell coeffs) (dec x))
