-- Runs of the model: the same verdict ends the same, and whether there is a run does not depend on the challenges.
-- Assumes nothing.
use mathlib.Core.Path.{◌≡◌, refl, ◌∙◌, ap}
use mathlib.Core.Bool.{Bool, true, false, cond, false≢true}
use mathlib.Core.List.{List, [], ◌∷◌}
use Prim.Native.Nat.{ℕ, zero, suc}
use lib.Dec.{eqb}
use lib.ListN.{length}
use Rattle.field.specs.Ext as E
use Rattle.field.specs.ExtRing.{ExtRing}
use Rattle.field.specs.Extension.{Extension}
use Rattle.field.specs.Element.{words}
use Rattle.multilinear.specs.RoundSum as RoundSum
use Rattle.multilinear.specs.RoundSum.{Claims}
use Rattle.gkr.specs.Run.{Frac, Cubic, Proof}
use Rattle.gkr.specs.Transcripts.{Words, Source}
use Rattle.gkr.specs.Gkr as Gkr
use Rattle.gkr.specs.Gkr.{accepted, zero_rounds, layer_count, poly_count, zero_check, root_check, subround_count, layer_check}
use Rattle.gkr.proofs.ReadLaws as Reads
use Rattle.gkr.proofs.Steps as Steps
use Rattle.gkr.specs.Tree as Tree
use Rattle.transcript.specs.Log.{Drawing}
use Rattle.verifier_round.specs.Verdicts.{Model, answer_of, left_by}
use Rattle.verifier.specs.Verified.{ended}
use Rattle.log_replay.specs.Replayed.{of_run}

pub ended_same : (ch ch' : Source E.Ext) (v : Model ch) (w : Model ch') → Reads.Same Extension words ch ch' v w → ended ch v ≡ ended ch' w
ended_same ch ch' v w e = go v ∙ ap (ended ch') e
  where
    go : (v : Model ch) → ended ch v ≡ ended ch' (Reads.recast Extension words ch ch' v)
    go (accepted v xi u) = refl
    go zero_rounds = refl
    go (layer_count expected actual) = refl
    go (poly_count expected actual) = refl
    go (zero_check actual u) = refl
    go (root_check expected actual u) = refl
    go (subround_count round expected actual u) = refl
    go (layer_check round expected actual u) = refl

module _ (ch : Source E.Ext) where
  -- a verdict that comes of a run
  abbrev pub Ran : Model ch → Type 0
  Ran v = of_run (answer_of ch v) ≡ true

  -- has a log of its own, whatever the log before it
  pub ran_left : (t : Words) (v : Model ch) → Ran v → left_by ch v ≡ Gkr.log_after Extension (Drawing ch) t v
  ran_left t (accepted v xi u) h = refl
  ran_left t zero_rounds h = absurd (false≢true h)
  ran_left t (layer_count expected actual) h = absurd (false≢true h)
  ran_left t (poly_count expected actual) h = absurd (false≢true h)
  ran_left t (zero_check actual u) h = refl
  ran_left t (root_check expected actual u) h = refl
  ran_left t (subround_count round expected actual u) h = refl
  ran_left t (layer_check round expected actual u) h = refl

  two_tests : (p q : Bool) (next v w : Model ch) → Ran next → Ran v → Ran w → Ran (cond p (cond q next v) w)
  two_tests true true next v w a b c = a
  two_tests true false next v w a b c = b
  two_tests false q next v w a b c = c

  rounds_ran : (polyss : List (List (Cubic E.Ext))) (cs : List (Claims E.Ext)) (v : Frac E.Ext) (xi : List E.Ext) (t : Words) → Ran (Gkr.rounds Extension (Drawing ch) polyss cs v xi t)
  unfolding Gkr.rounds
  rounds_ran [] cs v xi t = refl
  rounds_ran (polys ∷ polyss) [] v xi t = refl
  rounds_ran (polys ∷ polyss) (c ∷ cs) v xi t =
      let r = length xi in
      let C = Steps.sub_rounds Extension words ch polys v xi t (ch t) in
      let t₂ = Gkr.observe_layer_claims Extension (Drawing ch) c C.log in
      let w = Tree.reduce_to_single_evaluation ExtRing c (ch t₂) in
      let expected = ExtRing.mul (RoundSum.cross ExtRing (ch t) c) C.eq in
      let next = Gkr.rounds Extension (Drawing ch) polyss cs w (ch t₂ ∷ C.point) ((Drawing ch).drawn t₂) in
      two_tests (eqb (length polys) r) (E.same expected C.claim) next (layer_check r expected C.claim t₂) (subround_count r r (length polys) ((Drawing ch).drawn t))
      (rounds_ran polyss cs w (ch t₂ ∷ C.point) ((Drawing ch).drawn t₂))
      refl
      refl

  root_ran : (q0 : E.Ext) (c : Claims E.Ext) (cs : List (Claims E.Ext)) (polyss : List (List (Cubic E.Ext))) (t : Words) → Ran (Gkr.root Extension (Drawing ch) q0 c cs polyss t)
  unfolding Gkr.root
  root_ran q0 c cs polyss t =
      let t₁ = Gkr.observe_layer_claims Extension (Drawing ch) c ((Drawing ch).observe q0 t) in
      let sum = Tree.compute_recursive_relations ExtRing c in
      let w = Tree.reduce_to_single_evaluation ExtRing c (ch t₁) in
      let next = Gkr.rounds Extension (Drawing ch) polyss cs w (ch t₁ ∷ []) ((Drawing ch).drawn t₁) in
      two_tests (E.same sum.p ExtRing.nil) (E.same sum.q q0) next (root_check q0 sum.q t₁) (zero_check sum.p t₁) (rounds_ran polyss cs w (ch t₁ ∷ []) ((Drawing ch).drawn t₁)) refl refl

pub both_ran : (ch ch' : Source E.Ext) (n : ℕ) (π : Proof E.Ext) (t : Words) → Ran ch (Gkr.verify_gkr Extension (Drawing ch) n π t) → Ran ch' (Gkr.verify_gkr Extension (Drawing ch') n π t)
unfolding Gkr.verify_gkr Gkr.counted
both_ran ch ch' zero π t h = h
both_ran ch ch' (suc m) π t h = by π.claims h
  where
    by : (claims : List (Claims E.Ext)) → Ran ch (Gkr.counted Extension (Drawing ch) m π.q0 claims π.polys t) → Ran ch' (Gkr.counted Extension (Drawing ch') m π.q0 claims π.polys t)
    by [] h = h
    by (c ∷ cs) h = two (eqb (length cs) m) (eqb (length π.polys) m) h
      where
        two : (b d : Bool) → Ran ch (cond b (cond d (Gkr.root Extension (Drawing ch) π.q0 c cs π.polys t) (poly_count m (length π.polys))) (layer_count (suc m) (suc (length cs))))
            → Ran ch' (cond b (cond d (Gkr.root Extension (Drawing ch') π.q0 c cs π.polys t) (poly_count m (length π.polys))) (layer_count (suc m) (suc (length cs))))
        two true true h = root_ran ch' π.q0 c cs π.polys t
        two true false h = h
        two false d h = h
