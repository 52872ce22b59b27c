-- The model's run behind an accepted verdict: nothing was refused before it, it accepts with the values answered, and its point is the one written.
-- Assumes nothing.
use Rattle.std.specs.Prelude.{Result, Ok, Err}
use mathlib.Core.Path.{◌≡◌, refl, sym, ◌∙◌, ap, ap₂, subst}
use mathlib.Core.List.{List, [], ◌∷◌, ◌++◌}
use Prim.Native.Nat.{ℕ, zero, suc, ◌+◌, ◌≤◌}
use native.Mathlib.Omega.{arith}
use borrow.Author.Tests.{ne_eqb}
use lib.Dec.{eqb}
use lib.ListN.{length}
use Rattle.field.specs.Ext as E
use Rattle.field.specs.ExtRing.{ExtRing}
use Rattle.field.specs.Extension.{Extension}
use Rattle.field.specs.Element.{dec, enc, words, words_of_point}
use Rattle.field.specs.ElementLaws.{dec_enc}
use Rattle.field.specs.Cells as Cells
use Rattle.field.specs.Cells.{cells}
use Rattle.field.specs.CellLaws.{cell_right, cell_words}
use Rattle.gkr.specs.Run.{Frac, Proof}
use Rattle.gkr.specs.Transcripts.{Words, empty, Source}
use Rattle.gkr.specs.Tree as Tree
use Rattle.gkr.specs.Gkr as Gkr
use Rattle.gkr.specs.Gkr.{accepted, zero_rounds, layer_count, poly_count, zero_check, root_check, subround_count, layer_check}
use Rattle.gkr.specs.Tests.{fail}
use Rattle.gkr.proofs.VerifierCount.{accepted_point}
use Rattle.soundness.specs.Challenges.{Accepts}
use Rattle.transcript.specs.Log.{Drawing}
use Rattle.transcript.specs.Bound.{bound}
use Rattle.transcript.specs.Used.{unused}
use Rattle.refusal.specs.Fronts.{over}
use Rattle.refusal.specs.Tests.{Tested, passed, refused, first_of}
use Rattle.refusal.specs.declared.Refusal.{Refusal}
use Rattle.stored.specs.Parse.{sized}
use Rattle.verifier_round.specs.declared.Claims.{Claims}
use Rattle.verifier_round.specs.Verdicts.{Model, logged_by}
use Rattle.verifier.specs.Verified.{Asked, Lent, outcome, source_of, tests, ended, empty_tests, emptied, fronts, laid, verified}
use Rattle.verdict_sound.specs.Says.{stated, Tells, Matches}

-- THE POINT WRITTEN

shifted : (x : E.Ext) (l : List ℕ) (at k : ℕ) → cells (words x ++ l) (suc at) k ≡ cells l at k
shifted x l at zero = refl
shifted x l at (suc k) = ap₂ ◌∷◌ (ap (Cells.cell (words x ++ l)) (next at) ∙ cell_right (words x) l 1 at refl) (shifted x l (suc at) k)
  where
    next : (i : ℕ) → suc i ≡ 1 + i
    next i = omega arith

point_front : (zs : List E.Ext) (rest : List ℕ) → cells (words_of_point zs ++ rest) 0 (length zs) ≡ zs
unfolding words_of_point
point_front [] rest = refl
point_front (x ∷ xs) rest = ap₂ ◌∷◌ (cell_words x (words_of_point xs ++ rest)) (shifted x (words_of_point xs ++ rest) 0 (length xs) ∙ point_front xs rest)

-- ACCEPTED IS NO OTHER ANSWER

pub not_accepted : (e : Refusal) (c : Claims) → ◌≡◌ {A = Result Claims Refusal} (Err e) (Ok c) → ⊥
not_accepted e c h = let z : ◌≡◌ {A = ℕ} 0 1 = cc in omega arith

encoded_same : (x y : E.Ext) → enc x ≡ enc y → x ≡ y
encoded_same x y h = sym (dec_enc x) ∙ ap dec h ∙ dec_enc y

claims_of : (c d : Claims) → ◌≡◌ {A = Result Claims Refusal} (Ok c) (Ok d) → c ≡ d
claims_of c d h = cc

-- THE MODEL'S RUN

module _ (ch : Source E.Ext) (π : Proof E.Ext) (start : Words) (f : ℕ → Frac E.Ext) (b : Lent) where
  -- the answer and the point are those of a verdict w over n rounds
  abbrev Answers : (n : ℕ) → Model ch → Type 0
  Answers n w = Tells n (laid (ended ch w) b) f

  values : (n : ℕ) (v : Frac E.Ext) (zs : List E.Ext) (t : (Drawing ch).Log) → length zs ≡ n → Answers n (accepted v zs t) → v ≡ Tree.value ExtRing f zs
  values n v zs t l h =
      let at : cells (over (words_of_point zs) b.point) 0 n ≡ zs = ap (cells (over (words_of_point zs) b.point) 0) (sym l) ∙ point_front zs _ in
      let c = claims_of _ _ h in
      let p = encoded_same _ _ (ap (λ (x : Claims). x.numer) c) in
      let q = encoded_same _ _ (ap (λ (x : Claims). x.denom) c) in
      (λ i. record { p = p i; q = q i }) ∙ ap (Tree.value ExtRing f) at

  accepts : (n : ℕ) (w : Model ch) → Gkr.verify_gkr Extension (Drawing ch) n π start ≡ w → Answers n w → Accepts Extension (Drawing ch) f w
  unfolding Gkr.verify_gkr
  accepts zero w e h = absurd (not_accepted _ _ (subst (Answers 0) (sym e) h))
  accepts (suc m) (accepted v zs t) e h = values (suc m) v zs t (accepted_point Extension (Drawing ch) m π start v zs t e) h
  accepts (suc m) zero_rounds e h = absurd (not_accepted _ _ h)
  accepts (suc m) (layer_count expected actual) e h = absurd (not_accepted _ _ h)
  accepts (suc m) (poly_count expected actual) e h = absurd (not_accepted _ _ h)
  accepts (suc m) (zero_check actual t) e h = absurd (not_accepted _ _ h)
  accepts (suc m) (root_check expected actual t) e h = absurd (not_accepted _ _ h)
  accepts (suc m) (subround_count round expected actual t) e h = absurd (not_accepted _ _ h)
  accepts (suc m) (layer_check round expected actual t) e h = absurd (not_accepted _ _ h)

-- BEHIND THE VERDICT

none : (n : ℕ) → n ≡ 0 → 1 ≤ n → ⊥
none n e h = omega arith

-- the log that the run begins at
abbrev pub begun : Asked → Words
begun a = bound (sized a.proof) a.rounds empty

module _ (a : Asked) (b : Lent) where
  abbrev front : Tested
  front = first_of (tests a (length b.point) (length b.log))

  -- nothing was refused before the run
  pub opened : (c : Claims) → (verified a b).answer ≡ Ok c → front ≡ passed
  unfolding verified
  opened c h = go front refl
    where
      go : (w : Tested) → front ≡ w → w ≡ passed
      go passed e = refl
      go (refused r) e = absurd (not_accepted r c (sym (ap (λ w. (fronts a w).answer) e) ∙ h))

  abbrev run : Model (source_of a)
  run = Gkr.verify_gkr Extension (Drawing (source_of a)) a.rounds (stated a) (begun a)

  -- of one round or more, what is laid is the run's
  laid_run : 1 ≤ a.rounds → (c : Claims) → (verified a b).answer ≡ Ok c → verified a b ≡ laid (ended (source_of a) run) b
  unfolding verified
  laid_run some c h =
      ap (λ w. laid (fronts a w) b) (opened c h)
      ∙ ap (λ x. laid x b) (fail (eqb a.rounds 0) (outcome (emptied (first_of (empty_tests a.proof))) unused [] []) (ended (source_of a) run) (ne_eqb a.rounds 0 (λ e. none a.rounds e some)))

  -- the log left has the run's at its front
  pub log_left : 1 ≤ a.rounds → (c : Claims) → (verified a b).answer ≡ Ok c → (verified a b).buffers.log ≡ over (logged_by (source_of a) run) b.log
  log_left some c h = ap (λ o. o.buffers.log) (laid_run some c h)

  -- and the run accepts with values of the rows
  pub run_accepts : (f : ℕ → Frac E.Ext) → Matches a b f → Accepts Extension (Drawing (source_of a)) f run
  run_accepts f h =
      accepts (source_of a) (stated a) (begun a) f b a.rounds run refl (subst (λ o. Tells a.rounds o f) (laid_run h.0 _ h.1) h.1)
