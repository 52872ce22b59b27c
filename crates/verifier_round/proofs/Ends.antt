-- The end of a layer and of layer 0: a check that holds takes the model on, one that fails stops it there.
-- Assumes nothing.
use mathlib.Core.Path.{◌≡◌, refl, sym, ◌∙◌, ap}
use mathlib.Core.Bool.{Bool, true, false, cond, not}
use mathlib.Core.List.{List, [], ◌∷◌}
use Prim.Native.Nat.{ℕ, ◌+◌, ◌≤◌}
use native.Mathlib.Omega.{arith}
use borrow.Author.Tests.{eq-eqb, not-true, not-false}
use lib.Dec.{eqb}
use lib.ListN.{length}
use Rattle.std.specs.Prelude.{Ok, Err}
use Rattle.field.specs.Ext as E
use Rattle.field.specs.ExtRing.{ExtRing}
use Rattle.field.specs.Extension.{Extension}
use Rattle.field.specs.declared.Ext.{Ext}
use Rattle.field.specs.Element.{dec, enc, Canon, Is, same_words}
use Rattle.field.specs.ElementLaws.{same_is, enc_of_is, zero_is}
use Rattle.field.specs.Cells.{cells}
use Rattle.multilinear.specs.RoundSum as RoundSum
use Rattle.multilinear.specs.RoundSum.{Claims}
use Rattle.gkr.specs.Run.{Frac, Cubic}
use Rattle.gkr.specs.Transcripts.{Words, Source}
use Rattle.gkr.specs.Tree as Tree
use Rattle.gkr.specs.Sumcheck as Sumcheck
use Rattle.gkr.specs.Gkr as Gkr
use Rattle.gkr.specs.Gkr.{zero_check, root_check, layer_check}
use Rattle.transcript.specs.Log.{Drawing, Observing, State, Steps, log_of}
use Rattle.transcript.proofs.Logs.{then, retold}
use Rattle.refusal.specs.declared.Refusal.{Refusal}
use Rattle.refusal.specs.declared.Refusal.TheVariants.{ZeroCheckFailed, RootConsistencyCheckFailed, LayerConsistencyCheckFailed}
use Rattle.step.specs.declared.Frac.{Frac as FracW}
use Rattle.step.specs.Values.{IsFrac}
use Rattle.verifier_round.specs.declared.Claims.{Claims as Claimed}
use Rattle.verifier_round.specs.declared.Sums.{Sums}
use Rattle.verifier_round.specs.Values.{columns}
use Rattle.verifier_round.specs.Verdicts.{Model, answer_of, point_of, left_by}
use Rattle.verifier_round.specs.Rounds.{Descended, Goes, Stops, Came, LayerChecked, Rooted}
use Rattle.verifier_round.proofs.Points.{headed}

-- the model's log after the claims c
abbrev pub after : Claims E.Ext → Words → Words
after c t = Gkr.observe_layer_claims Extension Observing c t

-- what the model does past the check of a layer
abbrev pub onward : (ch : Source E.Ext) (mss : List (List (Cubic E.Ext))) (cs : List (Claims E.Ext)) (c : Claims E.Ext) (z : List E.Ext) (t : Words) → Model ch
onward ch mss cs c z t =
    Gkr.rounds Extension (Drawing ch) mss cs (Tree.reduce_to_single_evaluation ExtRing c (ch (after c t))) (ch (after c t) ∷ z) ((Drawing ch).drawn (after c t))

-- past a check that holds: mu sampled
pub goes_on : {t t₁ t₂ : State} {pt pt' : List ℕ} (ch : Source E.Ext) (k n m : ℕ) (c : Claims E.Ext) (r : Claimed) (w : Words) (v : List (List (Cubic E.Ext)) → List (Claims E.Ext) → Model ch)
    → ((mss : List (List (Cubic E.Ext))) (cs : List (Claims E.Ext)) → v mss cs ≡ onward ch mss cs c (cells pt 1 k) w) → Steps t t₁ n m (after c w)
    → Descended pt pt' t₁ t₂ ch c r → Goes t t₂ pt' ch (k + 1) (n + 4) (m + 1) v r
goes_on {t} {t₁} {t₂} {pt} {pt'} ch k n m c r w v e a d =
    let g : log_of t₁ ≡ after c w = a.log in
    let z : cells pt' 0 (k + 1) ≡ ch (after c w) ∷ cells pt 1 k = headed pt pt' k _ d.mu ∙ ap (λ u. ch u ∷ cells pt 1 k) g in
    let f : columns r ≡ Tree.reduce_to_single_evaluation ExtRing c (ch (after c w)) =
    (λ i. record { p = (d.numer.value ∙ ap (λ u. (Tree.reduce_to_single_evaluation ExtRing c (ch u)).p) g) i; q = (d.denom.value ∙ ap (λ u. (Tree.reduce_to_single_evaluation ExtRing c (ch u)).q) g) i }) in
    let u : log_of t₂ ≡ (Drawing ch).drawn (after c w) = d.steps.log ∙ ap (Drawing ch).drawn g in
    record {
      verdict = λ mss cs. e mss cs ∙ sym (λ i. Gkr.rounds Extension (Drawing ch) mss cs (f i) (z i) (u i));
      steps = retold refl refl (sym d.steps.log) (then a d.steps);
      numer = d.numer.canon;
      denom = d.denom.canon;
      clean = d.mu.clean;
    }

-- a check that fails, with the log so far
pub stops_there : {t t' : State} (ch : Source E.Ext) {n m : ℕ} {w : Words} (v u : Model ch) (e : Refusal) → Steps t t' n m w → t'.put ≤ length t.buffer → v ≡ u → answer_of ch u ≡ Err e
    → point_of ch u ≡ [] → left_by ch u ≡ w → Stops t t' ch v e
stops_there ch v u e a h q x y z =
    record {
      answer = ap (answer_of ch) q ∙ x;
      point = ap (point_of ch) q ∙ y;
      more = omega (arith, a.put);
      room = h;
      kept = a.room;
      drawn = a.drawn;
      challenges = a.challenges;
      log = a.log ∙ sym z ∙ ap (left_by ch) (sym q);
      rest = a.rest;
    }

-- ---- the end of a layer
module _ (pt : List ℕ) (now : State) (ch : Source E.Ext) (c : Claims E.Ext) (round : ℕ) (lambda : Ext) (s : Sums) (expected : Ext) (x : Is expected (E.mul (RoundSum.cross ExtRing (dec lambda) c) (dec s.eq))) (k : Canon s.claim)
    (ms : List (Cubic E.Ext)) (v : Frac E.Ext) (z : List E.Ext) (t : Words) (came : Came pt now ch round lambda s ms v z t) (mss : List (List (Cubic E.Ext))) (cs : List (Claims E.Ext)) where
  abbrev checked : Sumcheck.Checked Extension (Drawing ch) → E.Ext → ℕ → Model ch
  checked C l r =
      cond (E.same (E.mul (RoundSum.cross ExtRing l c) C.eq) C.claim) (onward ch mss cs c C.point C.log)
      (layer_check r (E.mul (RoundSum.cross ExtRing l c) C.eq) C.claim (after c C.log))

  abbrev fails : Model ch
  fails = layer_check round (E.mul (RoundSum.cross ExtRing (dec lambda) c) (dec s.eq)) (dec s.claim) (after c (log_of now))

  closing : Gkr.rounds Extension (Drawing ch) (ms ∷ mss) (c ∷ cs) v z t
      ≡ cond (E.same (E.mul (RoundSum.cross ExtRing (dec lambda) c) (dec s.eq)) (dec s.claim)) (onward ch mss cs c (cells pt 1 round) (log_of now))
      fails
  unfolding Gkr.rounds
  closing =
      let b : eqb (length ms) (length z) ≡ true = eq-eqb (length ms) (length z) (came.counted ∙ sym came.long) in
      rw b (λ i. checked (came.sums i) (came.drew i) (came.long i))

  same_is_test : same_words expected s.claim ≡ E.same (E.mul (RoundSum.cross ExtRing (dec lambda) c) (dec s.eq)) (dec s.claim)
  same_is_test = same_is x (record { canon = k; value = refl })

  layer_holds : {b : Bool} → b ≡ same_words expected s.claim → b ≡ true → Gkr.rounds Extension (Drawing ch) (ms ∷ mss) (c ∷ cs) v z t ≡ onward ch mss cs c (cells pt 1 round) (log_of now)
  layer_holds e h = closing ∙ ap (λ b. cond b (onward ch mss cs c (cells pt 1 round) (log_of now)) fails) (sym same_is_test ∙ sym e ∙ h)

  layer_fails : {b : Bool} → b ≡ same_words expected s.claim → b ≡ false → Gkr.rounds Extension (Drawing ch) (ms ∷ mss) (c ∷ cs) v z t
      ≡ fails
  layer_fails e h = closing ∙ ap (λ b. cond b (onward ch mss cs c (cells pt 1 round) (log_of now)) fails) (sym same_is_test ∙ sym e ∙ h)

  layer_answer : ◌≡◌ {A = Refusal} (LayerConsistencyCheckFailed round (enc (E.mul (RoundSum.cross ExtRing (dec lambda) c) (dec s.eq))) (enc (dec s.claim))) (LayerConsistencyCheckFailed round expected s.claim)
  layer_answer = λ i. LayerConsistencyCheckFailed round (sym (enc_of_is x) i) (sym (enc_of_is (record { canon = k; value = refl })) i)

pub closed_go : {pt pt' : List ℕ} {t t₁ t₂ : State} (ch : Source E.Ext) (c : Claims E.Ext) (round : ℕ) (lambda : Ext) (s : Sums) (expected : Ext) (r : Claimed) (b : Bool)
    → Is expected (E.mul (RoundSum.cross ExtRing (dec lambda) c) (dec s.eq)) → Canon s.claim → b ≡ same_words expected s.claim → not b ≡ false
    → Steps t t₁ 16 0 (after c (log_of t)) → Descended pt pt' t₁ t₂ ch c r → LayerChecked pt pt' t t₂ ch c round lambda s (Ok r)
closed_go {pt} {t = t} ch c round lambda s expected r b x k e h a d = λ ms v z w came.
    goes_on ch round 16 0 c r (log_of t) _ (λ mss cs. layer_holds pt t ch c round lambda s expected x k ms v z w came mss cs e (not-false b h)) a d

pub closed_stop : {pt : List ℕ} {t t₁ : State} (ch : Source E.Ext) (c : Claims E.Ext) (round : ℕ) (lambda : Ext) (s : Sums) (expected : Ext) (b : Bool)
    → Is expected (E.mul (RoundSum.cross ExtRing (dec lambda) c) (dec s.eq)) → Canon s.claim → b ≡ same_words expected s.claim → not b ≡ true
    → Steps t t₁ 16 0 (after c (log_of t)) → t.put + 20 ≤ length t.buffer → LayerChecked pt pt t t₁ ch c round lambda s (Err (LayerConsistencyCheckFailed round expected s.claim))
closed_stop {pt} {t} ch c round lambda s expected b x k e h a room = λ ms v z w came mss cs.
    stops_there ch _ _ _ a (omega (arith, a.put)) (layer_fails pt t ch c round lambda s expected x k ms v z w came mss cs e (not-true b h))
    (λ i. Err (layer_answer pt t ch c round lambda s expected x k ms v z w came mss cs i)) refl refl

-- ---- layer 0
module _ (ch : Source E.Ext) (t : State) (q0 : Ext) (c : Claims E.Ext) (numer denom : Ext) (x : Is numer (Tree.compute_recursive_relations ExtRing c).p) (y : Is denom (Tree.compute_recursive_relations ExtRing c).q)
    (k : Canon q0) (mss : List (List (Cubic E.Ext))) (cs : List (Claims E.Ext)) where
  abbrev t₀ : Words
  t₀ = (Drawing ch).observe (dec q0) (log_of t)

  abbrev R : Frac E.Ext
  R = Tree.compute_recursive_relations ExtRing c

  abbrev past : Model ch
  past = cond (E.same R.q (dec q0)) (onward ch mss cs c [] t₀) (root_check (dec q0) R.q (after c t₀))

  opening : Gkr.root Extension (Drawing ch) (dec q0) c cs mss (log_of t) ≡ cond (E.same R.p E.nil) past (zero_check R.p (after c t₀))
  unfolding Gkr.root
  opening = refl

  zero_test : same_words numer (record { c0 = 0; c1 = 0; c2 = 0; c3 = 0 }) ≡ E.same R.p E.nil
  zero_test = same_is x zero_is

  zero_fails : {b : Bool} → b ≡ same_words numer (record { c0 = 0; c1 = 0; c2 = 0; c3 = 0 }) → b ≡ false
      → Gkr.root Extension (Drawing ch) (dec q0) c cs mss (log_of t) ≡ zero_check R.p (after c t₀)
  zero_fails e h = opening ∙ ap (λ b. cond b past (zero_check R.p (after c t₀))) (sym zero_test ∙ sym e ∙ h)

  zero_holds : {b : Bool} → b ≡ same_words numer (record { c0 = 0; c1 = 0; c2 = 0; c3 = 0 }) → b ≡ true → Gkr.root Extension (Drawing ch) (dec q0) c cs mss (log_of t) ≡ past
  zero_holds e h = opening ∙ ap (λ b. cond b past (zero_check R.p (after c t₀))) (sym zero_test ∙ sym e ∙ h)

  q_test : same_words denom q0 ≡ E.same R.q (dec q0)
  q_test = same_is y (record { canon = k; value = refl })

  root_fails : {b b' : Bool} → b ≡ same_words numer (record { c0 = 0; c1 = 0; c2 = 0; c3 = 0 }) → b ≡ true → b' ≡ same_words denom q0 → b' ≡ false
      → Gkr.root Extension (Drawing ch) (dec q0) c cs mss (log_of t) ≡ root_check (dec q0) R.q (after c t₀)
  root_fails e h e' h' = zero_holds e h ∙ ap (λ b. cond b (onward ch mss cs c [] t₀) (root_check (dec q0) R.q (after c t₀))) (sym q_test ∙ sym e' ∙ h')

  root_holds : {b b' : Bool} → b ≡ same_words numer (record { c0 = 0; c1 = 0; c2 = 0; c3 = 0 }) → b ≡ true → b' ≡ same_words denom q0 → b' ≡ true
      → Gkr.root Extension (Drawing ch) (dec q0) c cs mss (log_of t) ≡ onward ch mss cs c [] t₀
  root_holds e h e' h' = zero_holds e h ∙ ap (λ b. cond b (onward ch mss cs c [] t₀) (root_check (dec q0) R.q (after c t₀))) (sym q_test ∙ sym e' ∙ h')

-- the denominator told and the claims, one after the other
both_observed : {t t₁ t₂ : State} (q : E.Ext) (c : Claims E.Ext) → Steps t t₁ 4 0 (Observing.observe q (log_of t)) → Steps t₁ t₂ 16 0 (after c (log_of t₁)) → Steps t t₂ 20 0 (after c (Observing.observe q (log_of t)))
both_observed q c x y = then x (retold refl refl (ap (after c) x.log) y)

module _ (pt : List ℕ) {t t₁ t₂ : State} (ch : Source E.Ext) (q0 : Ext) (c : Claims E.Ext) (f : FracW) (b : Bool) (x : IsFrac f (Tree.compute_recursive_relations ExtRing c)) (k : Canon q0)
    (e : b ≡ same_words f.p (record { c0 = 0; c1 = 0; c2 = 0; c3 = 0 })) (s : Steps t t₁ 4 0 (Observing.observe (dec q0) (log_of t))) (s' : Steps t₁ t₂ 16 0 (after c (log_of t₁))) where
  pub root_zero : not b ≡ true → t.put + 24 ≤ length t.buffer → Rooted pt t t₂ ch (dec q0) c (Err (ZeroCheckFailed f.p))
  root_zero h room = λ mss cs.
      let o = both_observed (dec q0) c s s' in
      stops_there ch _ _ _ o (omega (arith, o.put)) (zero_fails ch t q0 c f.p f.q x.p x.q k mss cs e (not-true b h))
      (λ i. Err (ZeroCheckFailed (sym (enc_of_is x.p) i))) refl refl

  module _ (b' : Bool) (h : not b ≡ false) (e' : b' ≡ same_words f.q q0) where
    pub root_differs : not b' ≡ true → t.put + 24 ≤ length t.buffer → Rooted pt t t₂ ch (dec q0) c (Err (RootConsistencyCheckFailed q0 f.q))
    root_differs h' room = λ mss cs.
        let o = both_observed (dec q0) c s s' in
        stops_there ch _ _ _ o (omega (arith, o.put)) (root_fails ch t q0 c f.p f.q x.p x.q k mss cs e (not-false b h) e' (not-true b' h'))
        (λ i. Err (RootConsistencyCheckFailed (sym (enc_of_is (record { canon = k; value = refl })) i) (sym (enc_of_is x.q) i))) refl refl

    pub root_go : {pt' : List ℕ} {t₃ : State} (r : Claimed) → not b' ≡ false → Descended pt pt' t₂ t₃ ch c r → Rooted pt' t t₃ ch (dec q0) c (Ok r)
    root_go r h' d =
        goes_on ch 0 20 0 c r ((Drawing ch).observe (dec q0) (log_of t)) _ (λ mss cs. root_holds ch t q0 c f.p f.q x.p x.q k mss cs e (not-false b h) e' (not-false b' h'))
        (both_observed (dec q0) c s s') d
