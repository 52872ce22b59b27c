-- The tree, the start of the log, round 0 and the rounds after it make up the model's run.
-- Assumes nothing.
use mathlib.Core.Path.{◌≡◌, refl, sym, ◌∙◌, ap, ap₂, subst}
use mathlib.Core.Bool.{Bool, true, false, cond}
use mathlib.Core.List.{List, [], ◌∷◌}
use Prim.Native.Nat.{ℕ, suc, ◌-◌, ◌≤◌}
use native.Mathlib.Omega.{arith}
use Rattle.field.specs.Ext as E
use Rattle.field.specs.ExtRing.{ExtRing}
use Rattle.field.specs.Extension.{Extension}
use Rattle.field.specs.Element.{dec}
use Rattle.gkr.specs.Run.{Frac}
use Rattle.gkr.specs.Transcripts.{Words, Source}
use Rattle.gkr.specs.Tree as Tree
use Rattle.gkr.specs.Gkr as Gkr
use Rattle.field.specs.declared.Ext.{Ext}
use Rattle.field.specs.Cells.{cells}
use Rattle.transcript.specs.Log.{Drawing, Observing, State, Steps, log_of}
use Rattle.transcript.proofs.Logs.{no_steps, retold, then}
use Rattle.step.specs.declared.Frac.{Frac as FracW}
use Rattle.step.specs.Values.{IsFrac}
use Rattle.prover_tree.specs.Nodes.{node, Built}
use Rattle.prover_layer.specs.Columns.{claims}
use Rattle.prover_rounds.specs.Layers.{observed_claims, RoundClosed, Levels, log_up_to, used_up_to, runs, AllLayers}
use Rattle.prover_rounds.proofs.Descent.{first_log, first_used}
use Rattle.prover_run.specs.Runs.{Planted, begun, RunOf}

pub planted : (rows ws ws' : List ℕ) (size : ℕ) (root : FracW) → Built rows ws ws' size → IsFrac root (node ws' 1) → Planted rows ws' size root
planted rows ws ws' size root B R = record {
  clean = B.clean;
  levels = λ m e. record { holds = λ d h i a u v. B.nodes (suc m) h d i e a v };
  sum = λ m e. subst (IsFrac root) (B.nodes (suc m) (suc m) 0 0 e (omega arith) (omega arith)) R;
  known = R;
}

-- THE START OF THE LOG

pub begun_asserted : (s : State) (b : Bool) (x : E.Ext) → b ≡ true → Steps s s (cond b 0 4) 0 (begun b x (log_of s))
begun_asserted s b x h = rw h (no_steps s)

pub begun_open : {s s' : State} (b : Bool) (x : E.Ext) → b ≡ false → Steps s s' 4 0 (Observing.observe x (log_of s)) → Steps s s' (cond b 0 4) 0 (begun b x (log_of s))
begun_open b x h a = rw h a

-- HOW MUCH IS WRITTEN AND USED

pub log_one : log_up_to 1 ≡ 24
unfolding log_up_to
log_one = refl

pub used_one : used_up_to 1 ≡ 2
unfolding used_up_to
used_one = refl

-- root q, round 0 and the rounds after it
pub run_steps : {s s₁ s₂ s₃ : State} {t t₁ t₂ : Words} (n : ℕ) → 1 ≤ n → Steps s s₁ 4 0 t → Steps s₁ s₂ 20 1 t₁ → Steps s₂ s₃ (log_up_to n - log_up_to 1) (used_up_to n - used_up_to 1) t₂
    → Steps s s₃ (log_up_to n) (used_up_to n - 1) t₂
run_steps n h a b c = retold (omega (arith, log_one, first_log n h)) (omega (arith, used_one, first_used n h)) refl (then (then a b) c)

-- ROUND 0

-- the model's log after root q and the first claims
abbrev first_told : (f : ℕ → Frac E.Ext) (m : ℕ) (ch : Source E.Ext) (t : Words) → Words
first_told f m ch t = Gkr.observe_layer_claims Extension (Drawing ch) (Tree.children ExtRing (Tree.tree ExtRing f m) 0) ((Drawing ch).observe (Tree.tree ExtRing f (suc m) 0).q t)

-- ALL

pub run_of : (ws pt pt' pt'' : List ℕ) {s s₁ s₂ s₃ : State} (ch : Source E.Ext) (n : ℕ) (q : Ext) → Steps s s₁ 4 0 (Observing.observe (dec q) (log_of s)) → RoundClosed ws pt pt' s₁ s₂ ch 2
    → ((f : ℕ → Frac E.Ext) (g : ℕ) → n ≡ suc g → Levels f ws n 0 → AllLayers f pt' pt'' s₂ s₃ ch n g)
    → (f : ℕ → Frac E.Ext) (m : ℕ) → n ≡ suc m → Levels f ws n 0 → dec q ≡ (Tree.tree ExtRing f (suc m) 0).q → RunOf f pt'' s s₃ ch m
unfolding Gkr.run
run_of ws pt pt' pt'' {s} {s₁} {s₂} ch n q o C all f m e L h =
    let t₁ = first_told f m ch (log_of s) in
    let a : node ws 2 ≡ Tree.tree ExtRing f m 0 = L.holds 1 m 0 (omega arith) (omega arith) (omega arith) in
    let b : node ws 3 ≡ Tree.tree ExtRing f m 1 = L.holds 1 m 1 (omega arith) (omega arith) (omega arith) in
    let c : claims ws 2 0 ≡ Tree.children ExtRing (Tree.tree ExtRing f m) 0 = (λ i. record { p0 = (a i).p; q0 = (a i).q; p1 = (b i).p; q1 = (b i).q }) in
    let t : observed_claims (claims ws 2 0) (log_of s₁) ≡ t₁ = ap₂ observed_claims c (o.log ∙ ap (λ x. Observing.observe x (log_of s)) h) in
    let A = all f m e L in
    let on : runs f pt' ch m 1 s₂ ≡ Gkr.send Extension (Drawing ch) f m (ch t₁ ∷ []) ((Drawing ch).drawn t₁) =
    ap₂ (Gkr.send Extension (Drawing ch) f m) (ap (λ x. x ∷ []) (C.stored.here ∙ ap ch t)) (C.steps.log ∙ ap (Drawing ch).drawn t) in
    record {
      point = ap (cells pt'' 0) (sym e) ∙ A.point ∙ ap (λ s. s.point) on;
      steps = retold (ap log_up_to e) (ap (λ n. used_up_to n - 1) e) (ap (λ s. s.log) on) (run_steps n (omega (arith, e)) o C.steps A.steps);
    }
