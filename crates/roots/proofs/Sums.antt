-- What is done tells the sum of all rows: of none, or of 2 ^ n.
-- Assumes nothing.
use mathlib.Core.Path.{◌≡◌, refl, sym, ◌∙◌, ap}
use mathlib.Core.Bool.{Bool}
use mathlib.Core.List.{List}
use mathlib.Core.Logic.{◌⊎◌, inl, inr}
use Prim.Native.Nat.{ℕ, zero, suc, ◌^◌}
use native.Mathlib.Omega.{arith}
use lib.Dec.{eqb}
use lib.ListN.{take}
use Rattle.field.specs.Ext as E
use Rattle.field.specs.ExtRing.{ExtRing}
use Rattle.field.specs.Extension.{Extension}
use Rattle.gkr.specs.Run.{Frac}
use Rattle.gkr.specs.Tests.{either}
use Rattle.gkr.specs.Transcripts.{empty, Source}
use Rattle.gkr.specs.Tree as Tree
use Rattle.gkr.specs.Gkr as Gkr
use Rattle.gkr.specs.Gkr.{done, non_zero_root_sum}
use Rattle.gkr.proofs.Count as Count
use Rattle.transcript.specs.Log.{Drawing}
use Rattle.transcript.specs.Bound.{bound}
use Rattle.transcript.specs.Source.{source}
use Rattle.step.specs.declared.Frac.{Frac as FracW}
use Rattle.refusal.specs.Tests.{Tested, passed, refused}
use Rattle.refusal.specs.declared.Proving.{Proving}
use Rattle.refusal.specs.declared.Refusal.TheVariants.{NonZeroRootSum}
use Rattle.prover_tree.specs.Nodes.{node}
use Rattle.sizes.specs.Sizes.{row_count, rounds_from, rounds_of, needed_words}
use Rattle.prover_gate.specs.declared.Rooms.{Rooms}
use Rattle.prover_gate.specs.Refusals.{Call, first_refusal}
use Rattle.prover.specs.Proved.{Outcome, enc_frac, one_row, after, ran, entered, fronts, summed}
use Rattle.prover.proofs.Opening.{gate_opens}
use Rattle.prover.proofs.Theorems.{done_refused, same_rounds, same_sum}

-- the sum of no rows
abbrev none : Frac E.Ext
none = record { p = E.nil; q = E.one }

-- n and s are told of these rows
abbrev pub Told : (rows : List ℕ) (n : ℕ) (s : FracW) → Type 0
Told rows n s = (s ≡ enc_frac none) ⊎ ((row_count rows ≡ 2 ^ n) × (s ≡ enc_frac (Tree.tree ExtRing (node rows) n 0)))

-- where an outcome is done, so it is
abbrev Tells : (rows : List ℕ) → Outcome → Type 0
Tells rows o = (n : ℕ) (s : FracW) → o.answer ≡ summed n s → Told rows n s

module _ (rows : List ℕ) where
  -- the sum of a model's run is the root
  run_sum : (ch : Source E.Ext) (asserted b : Bool) (m : ℕ) (P : Gkr.Proved Extension (Drawing ch))
      → Gkr.fractional_sumcheck Extension (Drawing ch) asserted m (node rows) (bound b (suc m) empty) ≡ done P → P.sum ≡ Tree.tree ExtRing (node rows) (suc m) 0
  unfolding Gkr.run
  run_sum ch asserted b m P e = ap (λ Q. Q.sum) (Count.done_run Extension (Drawing ch) asserted m (node rows) (bound b (suc m) empty) P e)

  after_tells : (ch : Source E.Ext) (b : Bool) (m : ℕ) → row_count rows ≡ 2 ^ suc m → (a : Gkr.Answer Extension (Drawing ch))
      → ((P : Gkr.Proved Extension (Drawing ch)) → a ≡ done P → P.sum ≡ Tree.tree ExtRing (node rows) (suc m) 0) → Tells rows (after ch b (suc m) a)
  after_tells ch b m size (done P) h n s d =
      let k = same_rounds d in
      let e = same_sum d in
      inr (size ∙ ap (λ j. 2 ^ j) k, sym e ∙ ap enc_frac (h P refl) ∙ ap (λ j. enc_frac (Tree.tree ExtRing (node rows) j 0)) k)
  after_tells ch b m size non_zero_root_sum h n s d = absurd (done_refused n s NonZeroRootSum (sym d))

  ran_tells : (modes : Proving) (ch : List ℕ) (n : ℕ) → (n ≡ 0) ⊎ (row_count rows ≡ 2 ^ n) → Tells rows (ran rows modes ch n)
  ran_tells modes ch zero size =
      either (Tells rows) (eqb (row_count rows) 0) _ _
      (λ z n s d. inl (sym (same_sum d)))
      (λ z n s d. absurd (done_refused n s (one_row rows modes.assert_zero) (sym d)))
  ran_tells modes ch (suc m) (inl z) = absurd (omega arith)
  ran_tells modes ch (suc m) (inr size) =
      let needed = source modes.drawn (take (needed_words modes.drawn (suc m)) ch) in
      let asserted = modes.assert_zero in
      after_tells needed modes.sized m size (Gkr.fractional_sumcheck Extension (Drawing needed) asserted m (node rows) (bound modes.sized (suc m) empty)) (run_sum needed asserted modes.sized m)

-- no rounds, or a power of two
sized : (k : ℕ) → ((k ≡ 0 → ⊥) → k ≡ 2 ^ rounds_of k) → (rounds_of k ≡ 0) ⊎ (k ≡ 2 ^ rounds_of k)
unfolding rounds_from
sized zero h = inl refl
sized (suc k) h = inr (h (λ e. omega arith))

pub done_sum : (c : Call) (r : Rooms) (n : ℕ) (s : FracW) → (fronts c r).answer ≡ summed n s → Told c.rows n s
unfolding fronts
done_sum c r = go (first_refusal c r) refl
  where
    go : (t : Tested) → first_refusal c r ≡ t → Tells c.rows (entered c t)
    go passed h = ran_tells c.rows c.modes c.challenges (rounds_of (row_count c.rows)) (sized (row_count c.rows) (gate_opens c r h).all)
    go (refused e) h = λ n s d. absurd (done_refused n s e (sym d))
