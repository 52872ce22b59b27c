-- Which numbers are answered where no test is met, by no rounds and by a run; a refusal of another number is none of these.
-- Assumes nothing.
use Rattle.std.specs.Prelude.{Result, Err}
use mathlib.Core.Path.{◌≡◌, refl, sym, ◌∙◌, ap}
use mathlib.Core.Bool.{Bool, true, false, cond, ◌&&◌, ◌||◌, false≢true}
use mathlib.Core.List.{List, [], ◌∷◌}
use Prim.Native.Nat.{ℕ, zero, suc}
use borrow.Author.Tests.{eqb-false}
use lib.Dec.{eqb, leb}
use lib.ListN.{length}
use Rattle.field.specs.Ext as E
use Rattle.field.specs.ExtRing.{ExtRing}
use Rattle.field.specs.Extension.{Extension}
use Rattle.multilinear.specs.RoundSum.{Claims}
use Rattle.multilinear.specs.RoundSum as RoundSum
use Rattle.gkr.specs.Run.{Transcript, Frac, Cubic, Proof}
use Rattle.gkr.specs.Tree as Tree
use Rattle.gkr.specs.Sumcheck as Sumcheck
use Rattle.gkr.specs.Transcripts.{Words, Source}
use Rattle.gkr.specs.Gkr as Gkr
use Rattle.gkr.specs.Gkr.{layer_count, poly_count, zero_check, root_check, subround_count, layer_check}
use Rattle.gkr.specs.Tests.{either}
use Rattle.transcript.specs.Log.{Drawing}
use Rattle.refusal.specs.declared.Refusal.{Refusal}
use Rattle.refusal.specs.Numbers.{report_of}
use Rattle.refusal.specs.Tests.{passed, first_of}
use Rattle.refusal.specs.TestWays.{each_way}
use Rattle.verifier_round.specs.declared.Claims.{Claims as Claimed}
use Rattle.verifier_round.specs.Report.{verdict_report}
use Rattle.verifier_round.specs.Verdicts.{Model, answer_of}
use Rattle.verifier.specs.Verified.{Asked, Outcome, source_of, empty_tests, emptied, fronts}

-- two refusals of different numbers
pub unlike : (e r : Refusal) → eqb (report_of e).number (report_of r).number ≡ false → ¬ (◌≡◌ {A = Result Claimed Refusal} (Err e) (Err r))
unlike e r h q = eqb-false _ _ h (ap (λ x. (verdict_report x).number) q)

-- done, 14 to 19, and 22
abbrev past : ℕ → Bool
past k = eqb k 0 || eqb k 22 || leb 14 k && leb k 19

abbrev Past : Result Claimed Refusal → Type 0
Past v = past (verdict_report v).number ≡ true

-- no rounds
empty_answers : (bs : List ℕ) → Past (emptied (first_of (empty_tests bs)))
empty_answers bs = each_way (λ t. Past (emptied t)) (empty_tests bs) (λ _. refl, λ _. (λ _. refl, λ _. (λ _. refl, λ _. refl)))

-- one round or more: a run has rounds
module _ (ch : Source E.Ext) where
  abbrev S : Transcript E.Ext
  S = Drawing ch

  abbrev Some : Model ch → Type 0
  Some v = Past (answer_of ch v)

  round_some : (count sum : Bool) (next : Model ch) (r k a : ℕ) (x y : E.Ext) (t u : Words) → Some next → Some (cond count (cond sum next (layer_check r x y u)) (subround_count r k a t))
  round_some true true next r k a x y t u h = h
  round_some true false next r k a x y t u h = refl
  round_some false sum next r k a x y t u h = refl

  rounds_some : (mss : List (List (Cubic E.Ext))) (cs : List (Claims E.Ext)) (v : Frac E.Ext) (xi : List E.Ext) (t : Words) → Some (Gkr.rounds Extension S mss cs v xi t)
  unfolding Gkr.rounds
  rounds_some [] cs v xi t = refl
  rounds_some (ms ∷ mss) [] v xi t = refl
  rounds_some (ms ∷ mss) (c ∷ cs) v xi t =
      let r = length xi in
      let C = Sumcheck.verify_gkr_sumcheck Extension S ms xi (ExtRing.add v.p (ExtRing.mul (S.draw t) v.q)) ExtRing.one (S.drawn t) in
      let u = Gkr.observe_layer_claims Extension S c C.log in
      let mu = S.draw u in
      let expected = ExtRing.mul (RoundSum.cross ExtRing (S.draw t) c) C.eq in
      let w = Tree.reduce_to_single_evaluation ExtRing c mu in
      let next = Gkr.rounds Extension S mss cs w (mu ∷ C.point) (S.drawn u) in
      round_some (eqb (length ms) r) (E.same expected C.claim) next r r (length ms) expected C.claim (S.drawn t) u (rounds_some mss cs w (mu ∷ C.point) (S.drawn u))

  root_some : (q0 : E.Ext) (c : Claims E.Ext) (cs : List (Claims E.Ext)) (mss : List (List (Cubic E.Ext))) (t : Words) → Some (Gkr.root Extension S q0 c cs mss t)
  unfolding Gkr.root
  root_some q0 c cs mss t =
      let u = Gkr.observe_layer_claims Extension S c (S.observe q0 t) in
      let sum = Tree.compute_recursive_relations ExtRing c in
      let w = Tree.reduce_to_single_evaluation ExtRing c (S.draw u) in
      go (E.same sum.p E.nil) (E.same sum.q q0) _ q0 sum.q sum.p u (rounds_some mss cs w (S.draw u ∷ []) (S.drawn u))
    where
      go : (p q : Bool) (next : Model ch) (x y z : E.Ext) (u : Words) → Some next → Some (cond p (cond q next (root_check x y u)) (zero_check z u))
      go true true next x y z u h = h
      go true false next x y z u h = refl
      go false q next x y z u h = refl

  counted_some : (m : ℕ) (q0 : E.Ext) (cs : List (Claims E.Ext)) (mss : List (List (Cubic E.Ext))) (t : Words) → Some (Gkr.counted Extension S m q0 cs mss t)
  unfolding Gkr.counted
  counted_some m q0 [] mss t = refl
  counted_some m q0 (c ∷ cs) mss t = go (eqb (length cs) m) (eqb (length mss) m) _ _ _ _ _ (root_some q0 c cs mss t)
    where
      go : (l p : Bool) (next : Model ch) (i j k n : ℕ) → Some next → Some (cond l (cond p next (poly_count i j)) (layer_count k n))
      go true true next i j k n h = h
      go true false next i j k n h = refl
      go false p next i j k n h = refl

  run_answers : (n : ℕ) (π : Proof E.Ext) (t : Words) → eqb n 0 ≡ false → Some (Gkr.verify_gkr Extension S n π t)
  unfolding Gkr.verify_gkr
  run_answers zero π t h = absurd (eqb-false 0 0 h refl)
  run_answers (suc m) π t h = counted_some m _ _ _ t

past_answers : (a : Asked) → Past (fronts a passed).answer
past_answers a = either (λ (o : Outcome). Past o.answer) (eqb a.rounds 0) _ _ (λ _. empty_answers a.proof) (λ h. run_answers (source_of a) a.rounds _ _ h)

-- none of these is given where no test is met
pub not_by_run : (a : Asked) (r : Refusal) → past (report_of r).number ≡ false → ¬ ((fronts a passed).answer ≡ Err r)
not_by_run a r h q = false≢true (sym h ∙ ap (λ x. past (verdict_report x).number) (sym q) ∙ past_answers a)
