-- What each way through the prover answers and leaves is what the definition says.
-- Assumes nothing.
use mathlib.Core.Path.{◌≡◌, refl, sym, ◌∙◌, ap, subst}
use mathlib.Core.Bool.{Bool, true, false, not, ◌&&◌, cond}
use mathlib.Core.List.{List, [], ◌++◌, append-nil}
use Prim.Native.Nat.{ℕ, suc, ◌≤◌}
use native.Mathlib.Omega.{arith}
use borrow.Author.Tests.{not-true, not-false, eq-eqb}
use lib.ListN.{length, drop, replicate, length-replicate}
use Rattle.field.specs.Base as B
use Rattle.field.specs.Ext as E
use Rattle.field.specs.ExtRing.{ExtRing}
use Rattle.field.specs.Extension.{Extension}
use Rattle.field.specs.Element.{dec, enc, words_of_point}
use Rattle.field.specs.ElementLaws.{enc_of_is}
use Rattle.gkr.specs.Transcripts.{empty, Source}
use Rattle.gkr.specs.Run.{Frac}
use Rattle.gkr.specs.Tree as Tree
use Rattle.gkr.specs.Gkr as Gkr
use Rattle.gkr.specs.Gkr.{done, non_zero_root_sum}
use Rattle.transcript.specs.Log.{Drawing}
use Rattle.transcript.specs.Bound.{bound}
use Rattle.transcript.specs.declared.Used.{Used}
use Rattle.transcript.specs.Used.{unused}
use Rattle.step.specs.declared.Frac.{Frac as FracW}
use Rattle.step.specs.Values.{IsFrac}
use Rattle.prover_tree.specs.Nodes.{node}
use Rattle.prover_rounds.specs.Layers.{Levels}
use Rattle.refusal.specs.declared.Proving.{Proving}
use Rattle.refusal.specs.declared.Refusal.TheVariants.{NonZeroRootSum}
use Rattle.refusal.specs.declared.Refusal.{Refusal}
use Rattle.refusal.specs.Tests.{Tested, passed, refused}
use Rattle.refusal.specs.Fronts.{over}
use Rattle.sizes.specs.Sizes.{row_count, rounds_of, work_room}
use Rattle.prover_gate.specs.declared.Rooms.{Rooms}
use Rattle.prover_gate.specs.Refusals.{Call, first_refusal, as_gate}
use Rattle.stored.specs.Layout.{layout}
use Rattle.stored_writer.specs.Messages.{no_rows}
use Rattle.prover.specs.declared.Ending.{Ending}
use Rattle.std.specs.Prelude.{Result, Ok, Err}
use Rattle.prover.specs.Proved.{Buffers, Outcome, lent, outcome, laid, enc_frac, after, modelled, ran, entered, fronts, proved, rooms_of, summed}
use Rattle.prover.specs.Inner.{ending, run_of, Written, Opens}
use Rattle.prover.proofs.Writing.{drop_all, whole_proof}
use Rattle.prover.proofs.Opening.{gate_opens}

-- THE TEST OF ROOT P

module _ (ch : Source E.Ext) (f : ℕ → Frac E.Ext) (sized : Bool) (m : ℕ) where
  abbrev root : Frac E.Ext
  root = Tree.tree ExtRing f (suc m) 0

  abbrev model : Bool → Gkr.Answer Extension (Drawing ch)
  model b = Gkr.fractional_sumcheck Extension (Drawing ch) b m f (bound sized (suc m) empty)

  pub sumcheck_refused : (b : Bool) → (b && not (E.same root.p E.nil)) ≡ true → model b ≡ non_zero_root_sum
  unfolding Gkr.fractional_sumcheck
  sumcheck_refused true h = ap (λ t. cond t (done (run_of f true sized m ch)) non_zero_root_sum) (not-true (E.same root.p E.nil) h)
  sumcheck_refused false h = absurd (let z : ◌≡◌ {A = ℕ} 0 1 = cc in omega arith)

  pub sumcheck_done : (b : Bool) → (b && not (E.same root.p E.nil)) ≡ false → model b ≡ done (run_of f b sized m ch)
  unfolding Gkr.fractional_sumcheck
  sumcheck_done true h = ap (λ t. cond t (done (run_of f true sized m ch)) non_zero_root_sum) (not-false (E.same root.p E.nil) h)
  sumcheck_done false h = refl

pub zeros_length : (n : ℕ) → length (replicate {A = ℕ} n 0) ≡ n
zeros_length n = let z : ℕ = 0 in length-replicate n z

-- the same workspace room, and the same tree, under the other number
pub rewritten : {f : ℕ → Frac E.Ext} {asserted sized : Bool} {m : ℕ} {ch : Source E.Ext} {pf pt lg ws ws₁ : List ℕ} {b' : Buffers} {u : Used} → length ws₁ ≡ length ws
    → Written f asserted sized m ch (lent pf pt lg ws₁) b' u → Written f asserted sized m ch (lent pf pt lg ws) b' u
rewritten e w = record { used = w.used; proof = w.proof; point = w.point; log = w.log; work = w.work ∙ ap (λ k. replicate k 0) e }

pub levels_at : {f : ℕ → Frac E.Ext} {ws : List ℕ} {m n : ℕ} → n ≡ suc m → Levels f ws (suc m) 0 → Levels f ws n 0
levels_at {f} {ws} e L = subst (λ n. Levels f ws n 0) (sym e) L

-- the workspace of a run is the whole of its part
whole_work : (ws ws' : List ℕ) (n : ℕ) → length ws ≡ work_room n → ws' ≡ replicate (length ws) 0 → ws' ≡ over (replicate (work_room n) 0) ws
whole_work ws ws' n k h =
    h ∙ ap (λ k. replicate k 0) k ∙ sym (append-nil (replicate (work_room n) 0))
    ∙ ap (λ r. replicate (work_room n) 0 ++ r) (sym (drop_all (length (replicate (work_room n) 0)) ws (omega (arith, k, zeros_length (work_room n)))))

module _ (rows : List ℕ) (ch : Source E.Ext) (pf pt lg ws : List ℕ) (asserted sized : Bool) (m n : ℕ) (root : FracW) (e : n ≡ suc m) (lw : length ws ≡ work_room n)
    (R : IsFrac root (Tree.tree ExtRing (node rows) (suc m) 0)) {t : Bool} (te : t ≡ (asserted && not (E.same (dec root.p) E.nil))) where
  abbrev f : ℕ → Frac E.Ext
  f = node rows

  abbrev before : Buffers
  before = lent pf pt lg ws

  tested : t ≡ (asserted && not (E.same (Tree.tree ExtRing f (suc m) 0).p E.nil))
  tested = te ∙ ap (λ x. asserted && not (E.same x E.nil)) R.p.value

  pub prove_refused : (ws₁ ws' : List ℕ) {r : Ending} → t ≡ true → length ws₁ ≡ length ws → ws' ≡ replicate (length ws₁) 0 → r ≡ ending (Err NonZeroRootSum) unused
      → outcome r.answer r.used pf pt lg ws' ≡ laid (modelled rows asserted sized ch m) before
  prove_refused ws₁ ws' h l w q =
      let W = whole_work ws ws' (suc m) (lw ∙ ap work_room e) (w ∙ ap (λ k. replicate k 0) l) in
      (λ i. outcome (q i).answer (q i).used pf pt lg (W i))
      ∙ ap (λ a. laid (after ch sized (suc m) a) before) (sym (sumcheck_refused ch f sized m asserted (sym tested ∙ h)))

  pub prove_done : (b' : Buffers) (u : Used) → t ≡ false → Written f asserted sized m ch before b' u
      → ◌≡◌ {A = Outcome} (record { answer = summed n root; used = u; buffers = b' }) (laid (modelled rows asserted sized ch m) before)
  unfolding Gkr.run
  prove_done b' u h w =
      let S : root ≡ enc_frac (run_of f asserted sized m ch).sum = (λ i. record { p = enc_of_is R.p i; q = enc_of_is R.q i }) in
      let W = whole_work ws b'.work (suc m) (lw ∙ ap work_room e) w.work in
      (λ i. outcome (summed (e i) (S i)) (w.used i) (w.proof i) (w.point i) (w.log i) (W i))
      ∙ ap (λ a. laid (after ch sized (suc m) a) before) (sym (sumcheck_done ch f sized m asserted (sym tested ∙ h)))

-- NO ROUNDS

zero_words : enc E.nil ≡ record { c0 = 0; c1 = 0; c2 = 0; c3 = 0 }
unfolding E.nil E.emb B.nil B.of
zero_words = refl

one_words : enc E.one ≡ record { c0 = 1; c1 = 0; c2 = 0; c3 = 0 }
unfolding E.one E.emb B.nil B.one B.of
one_words = refl

pub none_done : (rows pf pf' : List ℕ) (modes : Proving) {u : Used} → u ≡ unused → row_count rows ≡ 0 → 23 ≤ length pf → length pf' ≡ length pf → pf' ≡ layout modes.sized no_rows ++ drop 23 pf → (pt lg ws : List ℕ)
    → outcome (summed 0 (record { p = record { c0 = 0; c1 = 0; c2 = 0; c3 = 0 }; q = record { c0 = 1; c1 = 0; c2 = 0; c3 = 0 } })) u pf' pt lg ws ≡ laid (ran rows modes [] 0) (lent pf pt lg ws)
unfolding words_of_point
none_done rows pf pf' modes q h l k e pt lg ws =
    let P = whole_proof pf pf' (layout modes.sized no_rows) 23 l k e in
    (λ i. outcome (summed 0 (record { p = sym zero_words i; q = sym one_words i })) (q i) (P i) pt lg ws)
    ∙ sym (rw (eq-eqb (row_count rows) 0 h))

-- THE WHOLE CALL

-- what the gate tells of the tests
pub told_shut : (count : ℕ) (t : Tested) (e : Refusal) → Err e ≡ as_gate count t → t ≡ refused e
told_shut count passed e h = cc
told_shut count (refused d) e h = cc

told_open : (count n : ℕ) (t : Tested) → Ok n ≡ as_gate count t → (t ≡ passed) × (n ≡ rounds_of count)
told_open count n passed h = (refl, cc)
told_open count n (refused d) h = (cc, cc)

module _ (c : Call) (r : Rooms) {g : Result ℕ Refusal} {n : ℕ} (h : g ≡ as_gate (row_count c.rows) (first_refusal c r)) (k : g ≡ Ok n) where
  opened : (first_refusal c r ≡ passed) × (n ≡ rounds_of (row_count c.rows))
  opened = told_open _ n (first_refusal c r) (sym k ∙ h)

  pub gate_told : Opens c.rows c.modes c.challenges r n
  gate_told = subst (Opens c.rows c.modes c.challenges r) (sym opened.1) (gate_opens c r opened.0)

pub proved_shut : (c : Call) (b : Buffers) {g : Result ℕ Refusal} {e : Refusal} {r : Ending} → g ≡ as_gate (row_count c.rows) (first_refusal c (rooms_of b)) → g ≡ Err e → r ≡ ending (Err e) unused
    → ◌≡◌ {A = Outcome} (record { answer = r.answer; used = r.used; buffers = b }) (proved c b)
unfolding proved fronts
proved_shut c b {e = e} h s q =
    (λ i. outcome (q i).answer (q i).used b.proof b.point b.log b.work)
    ∙ ap (λ t. laid (entered c t) b) (sym (told_shut _ (first_refusal c (rooms_of b)) e (sym s ∙ h)))

pub proved_open : (c : Call) (b : Buffers) {g : Result ℕ Refusal} {n : ℕ} {o : Outcome} → g ≡ as_gate (row_count c.rows) (first_refusal c (rooms_of b)) → g ≡ Ok n
    → o ≡ laid (ran c.rows c.modes c.challenges n) b → o ≡ proved c b
unfolding proved fronts
proved_open c b h k q =
    let z = opened c (rooms_of b) h k in
    q ∙ ap (λ n. laid (ran c.rows c.modes c.challenges n) b) z.1 ∙ ap (λ t. laid (entered c t) b) (sym z.0)
