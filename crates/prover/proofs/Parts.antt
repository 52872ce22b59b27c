-- A run over the needed parts of point and workspace is the run over the whole buffers.
-- Assumes nothing.
use mathlib.Core.Path.{◌≡◌, refl, sym, ◌∙◌, ap}
use mathlib.Core.Bool.{Bool}
use mathlib.Core.List.{List, [], ◌++◌, append-nil}
use Prim.Native.Nat.{ℕ, suc, ◌*◌, ◌-◌, ◌≤◌}
use native.Mathlib.Omega.{arith}
use lib.ListN.{length, take, drop, replicate, take-append-drop}
use lib.Seq.{length-take-le}
use Rattle.field.specs.Ext as E
use Rattle.field.specs.Extension.{Extension}
use Rattle.field.specs.Element.{words_of_point}
use Rattle.field.proofs.PointLaws.{point_length}
use Rattle.gkr.specs.Transcripts.{empty, Source}
use Rattle.gkr.proofs.Count as Count
use Rattle.gkr.specs.Gkr as Gkr
use Rattle.gkr.specs.Gkr.{done, non_zero_root_sum}
use Rattle.transcript.specs.Source.{source}
use Rattle.transcript.specs.Log.{Drawing}
use Rattle.transcript.specs.Bound.{bound}
use Rattle.prover_tree.specs.Nodes.{node}
use Rattle.sizes.specs.Sizes.{needed_words, work_room}
use Rattle.refusal.specs.declared.Proving.{Proving}
use Rattle.prover.specs.declared.Ending.{Ending}
use Rattle.refusal.specs.Fronts.{over}
use Rattle.prover.specs.Proved.{Buffers, Outcome, lent, outcome, laid, after, modelled, ran}
use Rattle.prover.proofs.Writing.{drop_all}
use Rattle.prover.proofs.Answering.{zeros_length}

over_part : (ws l : List ℕ) (k : ℕ) → length ws ≡ k → k ≤ length l → over ws (take k l) ++ drop k l ≡ over ws l
over_part ws l k e h =
    let z : drop (length ws) (take k l) ≡ [] = drop_all (length ws) (take k l) (omega (arith, length-take-le k l h)) in
    ap (λ r. (ws ++ r) ++ drop k l) z ∙ ap (λ r. r ++ drop k l) (append-nil ws) ∙ ap (λ n. ws ++ drop n l) (sym e)

module _ (ch : Source E.Ext) (sized : Bool) (n k w : ℕ) (pf pt lg ws : List ℕ) (ke : k ≡ 4 * n) (we : w ≡ work_room n) (kl : k ≤ length pt) (wl : w ≤ length ws) where
  abbrev whole : Buffers
  whole = lent pf pt lg ws

  abbrev cut : Buffers
  cut = lent pf (take k pt) lg (take w ws)

  -- what a run leaves in the parts, with what is behind them
  abbrev glue : Outcome → Outcome
  glue o = outcome o.answer o.used o.buffers.proof (o.buffers.point ++ drop k pt) o.buffers.log (o.buffers.work ++ drop w ws)

  wipes : over (replicate (work_room n) 0) (take w ws) ++ drop w ws ≡ over (replicate (work_room n) 0) ws
  wipes = over_part (replicate (work_room n) 0) ws w (zeros_length (work_room n) ∙ sym we) wl

  pub glued : (a : Gkr.Answer Extension (Drawing ch)) → ((P : Gkr.Proved Extension (Drawing ch)) → a ≡ done P → length P.point ≡ n) → glue (laid (after ch sized n a) cut) ≡ laid (after ch sized n a) whole
  glued (done P) h =
      let p = over_part (words_of_point P.point) pt k (point_length P.point ∙ ap (λ j. 4 * j) (h P refl) ∙ sym ke) kl in
      let o = laid (after ch sized n (done P)) whole in
      λ i. outcome o.answer o.used o.buffers.proof (p i) o.buffers.log (wipes i)
  glued non_zero_root_sum h =
      let o = laid (after ch sized n non_zero_root_sum) whole in
      λ i. outcome o.answer o.used o.buffers.proof (take-append-drop k pt i) o.buffers.log (wipes i)

pub run_parts : (rows ch pf pt lg ws : List ℕ) (modes : Proving) (n need k w : ℕ) (r : Ending) (pf' xi' lg' ws' : List ℕ)
    → (n ≡ 0 → ⊥) → need ≡ needed_words modes.drawn n → k ≡ 4 * n → w ≡ work_room n → k ≤ length pt → w ≤ length ws
    → ((m : ℕ) → n ≡ suc m → outcome r.answer r.used pf' xi' lg' ws' ≡ laid (modelled rows modes.assert_zero modes.sized (source modes.drawn (take need ch)) m) (lent pf (take k pt) lg (take w ws)))
    → outcome r.answer r.used pf' (xi' ++ drop k pt) lg' (ws' ++ drop w ws) ≡ laid (ran rows modes ch n) (lent pf pt lg ws)
run_parts rows ch pf pt lg ws modes n need k w r pf' xi' lg' ws' nz de ke we kl wl h =
    let m = n - 1 in
    let e : n ≡ suc m = omega arith in
    let asserted = modes.assert_zero in
    let start = bound modes.sized (suc m) empty in
    let c = source modes.drawn (take need ch) in
    let a = Gkr.fractional_sumcheck Extension (Drawing c) asserted m (node rows) start in
    let b : Buffers = lent pf pt lg ws in
    let kn : k ≡ 4 * suc m = ke ∙ ap (λ j. 4 * j) e in
    let wn : w ≡ work_room (suc m) = we ∙ ap work_room e in
    ap (glue c modes.sized (suc m) k w pf pt lg ws kn wn kl wl) (h m e)
    ∙ glued c modes.sized (suc m) k w pf pt lg ws kn wn kl wl a (Count.done_point Extension (Drawing c) asserted m (node rows) start)
    ∙ ap (λ j. laid (modelled rows asserted modes.sized (source modes.drawn (take j ch)) m) b) (de ∙ ap (needed_words modes.drawn) e)
    ∙ ap (λ j. laid (ran rows modes ch j) b) (sym e)
