-- What a fold hands back and leaves in its target, and what a sub-round's polynomial is at 1, 2 and 3, for every input.
-- Assumes nothing.
use Rattle.std.specs.Prelude.{Bool, true, false, cond, ◌&&◌, List, [], ◌++◌, ℕ, zero, suc, ◌*◌, ◌/◌, eqb, leb, length, drop, Result, Ok, Err}
use Rattle.field.specs.Ext as E
use Rattle.field.specs.ExtRing.{ExtRing}
use Rattle.field.specs.declared.Ext.{Ext}
use Rattle.field.specs.Element.{dec, enc, canon_words}
use Rattle.field.specs.Cells.{cell}
use Rattle.field.specs.Column.{flat}
use Rattle.wire.specs.Words.{all_canonical}
use Rattle.refusal.specs.declared.Refusal.{Refusal}
use Rattle.refusal.specs.Powers.{power_of_two}
use Rattle.multilinear.specs.Table as Table
use Rattle.multilinear.specs.RoundSum as RoundSum
use Rattle.multilinear.specs.RoundSum.{Claims}
use Rattle.columns.specs.Powers.{variables_of}
use Rattle.columns.specs.Passes.{claims}
use Rattle.step.specs.declared.Three.{Three}
use Rattle.step.specs.Values.{two, three}
use Rattle.poly.specs.Checks.{Sizes, refusal, whole, count}
use Rattle.poly.specs.Evaluations.{Filled, written}

-- ---- fold_mle_evals
abbrev pub fold_sizes : (source target : List ℕ) → Sizes
fold_sizes source target = record {
  lists = whole source;
  variables = 0;
  table = true;
  entries = count source;
  power = power_of_two (count source);
  room = leb (4 * (count source / 2)) (length target);
}

abbrev pub fold_refusal : (source target : List ℕ) (r : Ext) → Result (Unit {0}) Refusal
fold_refusal source target r = refusal (fold_sizes source target) (all_canonical source && canon_words r)

-- the folded entries: half as many, and none of a column of one entry
abbrev pub folded_words : (source : List ℕ) (r : Ext) → List ℕ
folded_words source r = flat (Table.fold ExtRing (cell source) (dec r)) (count source / 2)

-- the target: the folded entries, in front of what it held
abbrev pub fold_into : (source target : List ℕ) (r : Ext) → Filled
fold_into source target r = record {
  outcome = fold_refusal source target r;
  target = written (fold_refusal source target r) (folded_words source r ++ drop (4 * (count source / 2)) target) target;
}

-- whether it is the source that comes back: a column of one entry does, as itself
abbrev pub comes_back : Result (Unit {0}) Refusal → Bool → Bool
comes_back (Ok _) one = one
comes_back (Err why) one = false

abbrev pub is_source : (source target : List ℕ) (r : Ext) → Bool
is_source source target r = comes_back (fold_refusal source target r) (eqb (count source) 1)

-- the words handed back: the source's, else the folded entries; none where it is refused
abbrev pub fold_mle_evals : (source target : List ℕ) (r : Ext) → List ℕ
fold_mle_evals source target r = written (fold_refusal source target r) (cond (eqb (count source) 1) source (folded_words source r)) []

-- ---- sumcheck_round_poly_evals
abbrev pub round_sizes : (eq p0 q0 p1 q1 : List ℕ) → Sizes
round_sizes eq p0 q0 p1 q1 = record {
  lists = eqb (length eq) (length p0) && (eqb (length eq) (length q0) && (eqb (length eq) (length p1) && (eqb (length eq) (length q1) && whole eq)));
  variables = 0;
  table = true;
  entries = count eq;
  power = power_of_two (count eq);
  room = true;
}

abbrev pub all_five : (eq p0 q0 p1 q1 : List ℕ) → Bool
all_five eq p0 q0 p1 q1 = (((all_canonical eq && all_canonical p0) && all_canonical q0) && all_canonical p1) && all_canonical q1

abbrev pub round_refusal : (eq p0 q0 p1 q1 : List ℕ) (lambda : Ext) → Result (Unit {0}) Refusal
round_refusal eq p0 q0 p1 q1 lambda = refusal (round_sizes eq p0 q0 p1 q1) (all_five eq p0 q0 p1 q1 && canon_words lambda)

-- s at x, from columns of n variables; with no variable left there is nothing to bind, and s is constant
unfoldable pub round_at : (n : ℕ) (lambda : E.Ext) (eq : ℕ → E.Ext) (pq : ℕ → Claims E.Ext) (x : E.Ext) → E.Ext
round_at zero lambda eq pq x = RoundSum.total ExtRing 0 lambda eq pq
round_at (suc k) lambda eq pq x = RoundSum.s ExtRing k lambda eq pq x

abbrev pub rounds : Result (Unit {0}) Refusal → (E.Ext → E.Ext) → Result Three Refusal
rounds (Ok _) s = Ok (record { s1 = enc (s E.one); s2 = enc (s two); s3 = enc (s three) })
rounds (Err why) s = Err why

abbrev pub round_poly_evals : (eq p0 q0 p1 q1 : List ℕ) (lambda : Ext) → Result Three Refusal
round_poly_evals eq p0 q0 p1 q1 lambda =
    rounds (round_refusal eq p0 q0 p1 q1 lambda) (round_at (variables_of (count eq)) (dec lambda) (cell eq) (claims p0 q0 p1 q1))
