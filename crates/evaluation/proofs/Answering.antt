-- What is told of a sheet whose rows and point fit: the values, by their words.
-- Assumes nothing.
use Rattle.std.specs.Prelude.{◌≡◌, true, List, ℕ, ◌*◌, ◌%◌, ◌^◌, length, None, Result, Ok}
use Rattle.std.proofs.Common.{sym, ◌∙◌, ap, arith, eq-eqb, ne_eqb}
use Rattle.field.specs.Ext as E
use Rattle.field.specs.ExtRing.{ExtRing}
use Rattle.field.specs.ElementLaws.{enc_of_is}
use Rattle.field.specs.Cells.{Clean, cells}
use Rattle.gkr.specs.Tree as Tree
use Rattle.refusal.specs.declared.Refusal.{Refusal}
use Rattle.refusal.specs.Tests.{passed, first_of}
use Rattle.wire.specs.Words.{bad_place}
use Rattle.wire.specs.WordLaws.{canonical_below}
use Rattle.wire.specs.PlaceLaws.{place_canonical, place_bad}
use Rattle.step.specs.declared.Frac.{Frac as FracW}
use Rattle.step.specs.Values.{IsFrac}
use Rattle.prover_tree.specs.Nodes.{node}
use Rattle.sizes.specs.Sizes.{row_count, rounds_from, rounds_of, is_size}
use Rattle.sizes.specs.SizeLaws.{some_size}
use Rattle.evaluation.specs.declared.Values.{Values}
use Rattle.evaluation.specs.Evaluated.{tests, evaluated}

-- no word is bad
pub clean_words : (ws : List ℕ) → None ≡ bad_place ws → Clean ws
clean_words ws h = record { below = canonical_below ws (place_canonical ws h) }

-- what the searches of words say
pub ruleset searches = (place_canonical, place_bad, clean_words)

module _ (rows point : List ℕ) {n : ℕ} (ne : n ≡ rounds_of (row_count rows)) where
  -- what the evaluation by halves asks for
  pub rows_length : length rows % 8 ≡ 0 → is_size (row_count rows) ≡ true → (row_count rows ≡ 0 → ⊥) → length rows ≡ 8 * 2 ^ n
  rows_length h s z = let e : row_count rows ≡ 2 ^ n = some_size (row_count rows) s z ∙ ap (λ k. 2 ^ k) (sym ne) in omega arith

  module _ (h : first_of (tests rows point) ≡ passed) where
    abbrev Told : FracW → Type 0
    Told v = ◌≡◌ {A = Result Values Refusal} (Ok (record { rounds = n; numer = v.p; denom = v.q })) (evaluated rows point)

    pub told_none : row_count rows ≡ 0 → {v : FracW} → IsFrac v (record { p = E.nil; q = E.one }) → Told v
    unfolding evaluated rounds_from
    told_none z is =
        let e : n ≡ 0 = ne ∙ ap rounds_of z in
        rw (h, eq-eqb _ _ z, e) (λ i. Ok (record { rounds = 0; numer = enc_of_is is.p i; denom = enc_of_is is.q i }))

    pub told_some : (row_count rows ≡ 0 → ⊥) → {v : FracW} → IsFrac v (Tree.value ExtRing (node rows) (cells point 0 n)) → Told v
    unfolding evaluated
    told_some z is = rw (h, ne_eqb _ _ z, sym ne) (λ i. Ok (record { rounds = n; numer = enc_of_is is.p i; denom = enc_of_is is.q i }))
