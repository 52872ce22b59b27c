-- What a run leaves in the buffers, in exact words: point, log and proof bytes from the front, and the rest as before.
-- Assumes nothing.
use mathlib.Core.Path.{◌≡◌, refl, sym, ◌∙◌, ap, ap₂, subst}
use mathlib.Core.Bool.{Bool, true, false, cond}
use mathlib.Core.List.{List, [], ◌∷◌, ◌++◌, append-nil}
use Prim.Native.Nat.{ℕ, suc, ◌+◌, ◌*◌, ◌-◌, ◌/◌, ◌≤◌}
use native.Mathlib.Omega.{arith}
use lib.ListN.{length, take, drop, replicate, length-append, length-drop, take-append-drop}
use lib.Seq.{length-take-le, take_all}
use Rattle.field.specs.Ext as E
use Rattle.field.specs.ExtRing.{ExtRing}
use Rattle.field.specs.Extension.{Extension}
use Rattle.field.specs.Element.{dec, words_of_point}
use Rattle.field.specs.Cells.{Clean, cells}
use Rattle.field.proofs.PointLaws.{cells_length, point_length, point_is}
use Rattle.gkr.specs.Run.{Frac}
use Rattle.gkr.specs.Transcripts.{Words, empty}
use Rattle.gkr.specs.Tree as Tree
use Rattle.gkr.specs.Gkr as Gkr
use Rattle.transcript.specs.Source.{source}
use Rattle.transcript.specs.Log.{Drawing, State, Steps, log_of, source_of}
use Rattle.transcript.specs.Bound.{bound}
use Rattle.transcript.proofs.Logs.{then, retold, same_source}
use Rattle.transcript.specs.declared.Used.{Used}
use Rattle.transcript.specs.Used.{used, used_up, used_at}
use Rattle.step.specs.declared.Frac.{Frac as FracW}
use Rattle.step.specs.Values.{IsFrac}
use Rattle.stored.specs.Layout.{layout}
use Rattle.stored.specs.Lengths.{proof_size}
use Rattle.stored.specs.Elements.{encoded}
use Rattle.stored_writer.specs.Messages.{stored_proof, read_proof}
use Rattle.prover_run.specs.Runs.{begun, RunOf}
use Rattle.refusal.specs.Fronts.{over}
use Rattle.prover.specs.Proved.{lent}
use Rattle.prover.specs.Inner.{run_of, Written}
use Rattle.prover.proofs.Transcribed.{Extends, proof_there}

-- THE POINT

pub drop_all : (n : ℕ) (l : List ℕ) → length l ≤ n → drop n l ≡ []
drop_all n l h = empty (drop n l) (omega (arith, length-drop n l))
  where
    empty : (l : List ℕ) → length l ≤ 0 → l ≡ []
    empty [] h = refl
    empty (a ∷ l) h = absurd (omega arith)

-- a point of n cells is the whole of its buffer
pub whole_point : (pt pt' : List ℕ) (n : ℕ) (zs : List E.Ext) → Clean pt' → length pt ≡ 4 * n → length pt' ≡ 4 * n → cells pt' 0 n ≡ zs → pt' ≡ over (words_of_point zs) pt
whole_point pt pt' n zs c h h' e =
    let l : length (words_of_point zs) ≡ 4 * n = point_length zs ∙ ap (λ k. 4 * k) (ap length (sym e) ∙ cells_length pt' 0 n) in
    sym (take_all (4 * n) pt' (omega arith)) ∙ sym (point_is pt' 0 n c (omega arith)) ∙ ap words_of_point e
    ∙ sym (append-nil (words_of_point zs)) ∙ ap (λ r. words_of_point zs ++ r) (sym (drop_all (length (words_of_point zs)) pt (omega arith)))

-- THE LOG

pub whole_log : (lg lg' ws : List ℕ) (k : ℕ) → k ≤ length lg' → take k lg' ≡ ws → drop k lg' ≡ drop k lg → lg' ≡ over ws lg
whole_log lg lg' ws k h e d =
    let l : k ≡ length ws = sym (length-take-le k lg' h) ∙ ap length e in
    sym (take-append-drop k lg') ∙ ap₂ (λ a b. a ++ b) e (d ∙ ap (λ n. drop n lg) l)

-- THE PROOF

pub whole_proof : (pf pf' bs : List ℕ) (k : ℕ) → k ≤ length pf → length pf' ≡ length pf → pf' ≡ bs ++ drop k pf → pf' ≡ over bs pf
whole_proof pf pf' bs k h l e =
    let s : length bs ≡ k = omega (arith, ap length e ∙ length-append bs (drop k pf), length-drop k pf) in
    e ∙ ap (λ n. bs ++ drop n pf) (sym s)

-- the four words of the size, or none, and then those of root p, or none
pub opens : (asserted sized : Bool) (n : ℕ) (p : E.Ext) {s₀ s₁ s₂ : State}
    → Steps s₀ s₁ (cond sized 4 0) 0 (bound sized n (log_of s₀)) → Steps s₁ s₂ (cond asserted 0 4) 0 (begun asserted p (log_of s₁))
    → Steps s₀ s₂ (cond sized 4 0 + cond asserted 0 4) 0 (begun asserted p (bound sized n (log_of s₀)))
opens asserted sized n p a b = retold refl refl (ap (begun asserted p) a.log) (then a b)

-- they are whole cells
pub quarter : (asserted sized : Bool) (put : ℕ) → put ≡ cond sized 4 0 + cond asserted 0 4 → put ≡ 4 * (put / 4)
quarter true true put h = omega arith
quarter true false put h = omega arith
quarter false true put h = omega arith
quarter false false put h = omega arith

-- a transcript that has just begun over a buffer, with the challenges ch, or drawn ones where b is true
pub record Fresh (s : State) (lg : List ℕ) (b : Bool) (ch : List ℕ) : Type 0 where
  pub buffer : s.buffer ≡ lg
  pub challenges : s.challenges ≡ ch
  pub drawn : s.drawn ≡ b
  pub put : s.put ≡ 0
  pub used : s.used ≡ 0

-- the challenges are those lent, or drawn
pub run_alike : {f : ℕ → Frac E.Ext} {pt lg ch : List ℕ} {drawn : Bool} {m k : ℕ} {t : Words} {s₀ s₁ s₂ : State} → Fresh s₀ lg drawn ch → Steps s₀ s₁ k 0 t → RunOf f pt s₁ s₂ (source_of s₁) m → RunOf f pt s₁ s₂ (source drawn ch) m
run_alike {f} {pt} {m = m} {s₁ = s₁} {s₂ = s₂} F a h = subst (λ c. RunOf f pt s₁ s₂ c m) (same_source a ∙ (λ i. source (F.drawn i) (F.challenges i))) h

-- WHAT WAS USED UP: as much as the log at the last state holds

pub told_at : (s : State) (t : Words) {u : Used} → s.put ≤ length s.buffer → log_of s ≡ t → u ≡ used_at s → u ≡ used_up t
told_at s t l e q = q ∙ ap (λ (k : ℕ). used s.used k) (sym (length-take-le s.put s.buffer l)) ∙ ap used_up e

-- ALL

pub written : (f : ℕ → Frac E.Ext) (asserted sized : Bool) (m n : ℕ) {drawn : Bool} {ch lg lg' : List ℕ} (pf pf' pt pt' ws ws₁ ws' : List ℕ) (s₀ s₁ s₂ : State) (root : FracW) {u : Used} → lg' ≡ s₂.buffer
    → Fresh s₀ lg drawn ch → n ≡ suc m → IsFrac root (Tree.tree ExtRing f (suc m) 0)
    → Steps s₀ s₁ (cond sized 4 0 + cond asserted 0 4) 0 (begun asserted (dec root.p) (bound sized n (log_of s₀))) → s₁.put ≤ length s₁.buffer
    → RunOf f pt' s₁ s₂ (source_of s₁) m → s₂.put ≤ length s₂.buffer
    → Clean pt' → length pt ≡ 4 * n → length pt' ≡ 4 * n
    → proof_size n ≤ length pf → length pf' ≡ length pf → pf' ≡ layout sized (stored_proof lg' (s₁.put / 4) (n - 1)) ++ drop (proof_size n) pf
    → ws' ≡ replicate (length ws₁) 0 → length ws₁ ≡ length ws → u ≡ used_at s₂
    → Written f asserted sized m (source drawn ch) (lent pf pt lg ws) (lent pf' pt' lg' ws') u
written f asserted sized m n {drawn} {ch} {lg} {lg'} pf pf' pt pt' ws ws₁ ws' s₀ s₁ s₂ root el F e h a l₁ R l₂ c lp lp' kp kf ep ew lw eu =
    let src = source drawn ch in
    let run : Words → Gkr.Proved Extension (Drawing src) = Gkr.run Extension (Drawing src) m f in
    let Q = run_alike F a R in
    let none : log_of s₀ ≡ empty = (λ i. record { log = take (F.put i) s₀.buffer; used = F.used i }) in
    let t : log_of s₁ ≡ begun asserted (Tree.tree ExtRing f (suc m) 0).p (bound sized (suc m) empty) = a.log ∙ ap₂ (begun asserted) h.p.value (ap₂ (bound sized) e none) in
    let i = s₁.put / 4 in
    let q : n - 1 ≡ m = omega arith in
    let four : s₁.put ≡ 4 * i = quarter asserted sized s₁.put (omega (arith, a.put, F.put)) in
    let X : Extends (run (log_of s₁)).log s₂.buffer = record { rest = drop s₂.put s₂.buffer; whole = sym (take-append-drop s₂.put s₂.buffer) ∙ ap (λ w. w.log ++ drop s₂.put s₂.buffer) Q.steps.log } in
    let there = proof_there src m f (log_of s₁) s₂.buffer i (length-take-le s₁.put s₁.buffer l₁ ∙ four) X in
    record {
      used = told_at s₂ _ l₂ (Q.steps.log ∙ ap (λ u. (run u).log) t) eu;
      proof = whole_proof pf pf' (layout sized (encoded (run_of f asserted sized m src).proof)) (proof_size n) kp kf (ep ∙ ap (λ l. layout sized (stored_proof l i (n - 1)) ++ drop (proof_size n) pf) el ∙ ap (λ π. layout sized (encoded π) ++ drop (proof_size n) pf) (ap (λ k. read_proof s₂.buffer i k) q ∙ there ∙ ap (λ u. (run u).proof) t));
      point = whole_point pt pt' n _ c lp lp' (ap (cells pt' 0) e ∙ Q.point ∙ ap (λ u. (run u).point) t);
      log = el ∙ whole_log lg s₂.buffer _ s₂.put l₂ (ap (λ w. w.log) Q.steps.log ∙ ap (λ u. (run u).log.log) t) ((then a Q.steps).rest ∙ ap (drop s₂.put) F.buffer);
      work = ew ∙ ap (λ k. replicate k 0) lw;
    }
