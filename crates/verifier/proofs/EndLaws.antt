-- The end: what the run left is the definition's outcome, and no second one fits.
-- Assumes nothing.
use Rattle.std.specs.Prelude.{Result, Ok, Err}
use mathlib.Core.Path.{◌≡◌, refl, sym, ◌∙◌, ap, ap₂, subst}
use mathlib.Core.Bool.{Bool, true, false, not, ◌&&◌}
use mathlib.Core.List.{List, ◌++◌}
use Prim.Native.Nat.{ℕ, ◌*◌, ◌≤◌}
use native.Mathlib.Omega.{arith}
use borrow.Author.Tests.{ne_eqb, eqb-false}
use lib.Dec.{eqb}
use lib.ListN.{length, take, drop, take-append-drop}
use lib.Seq.{length-take-le}
use Rattle.field.specs.Ext as E
use Rattle.field.specs.Element.{words_of_point}
use Rattle.field.specs.ElementLaws.{enc_dec}
use Rattle.field.specs.Cells.{Clean, cells}
use Rattle.field.proofs.PointLaws.{point_is}
use Rattle.gkr.specs.Gkr.{accepted}
use Rattle.gkr.specs.Tests.{fail}
use Rattle.gkr.specs.Transcripts.{Words, Source}
use Rattle.transcript.specs.declared.Used.{Used}
use Rattle.transcript.specs.Source.{source}
use Rattle.transcript.specs.Log.{State, log_of, source_of}
use Rattle.transcript.specs.Used.{used, unused, used_up, used_at}
use Rattle.refusal.specs.Limits.{max_rounds}
use Rattle.refusal.specs.declared.Refusal.{Refusal}
use Rattle.refusal.specs.Tests.{refused, first_of}
use Rattle.refusal.specs.Fronts.{over}
use Rattle.sizes.specs.Sizes.{needed_words}
use Rattle.wire.specs.Words.{all_canonical}
use Rattle.wire.specs.WordLaws.{canonical_below}
use Rattle.stored.specs.declared.Outline.{Outline}
use Rattle.verifier_round.specs.declared.Claims.{Claims as Claimed}
use Rattle.verifier_round.specs.Values.{columns}
use Rattle.verifier_round.specs.Verdicts.{Model, point_of, left_by, logged_by}
use Rattle.verifier_rounds.specs.Runs.{Ends}
use Rattle.verifier.specs.Verified.{Asked, Lent, Outcome, outcome, lent, tests, ended, fronts, laid, verified}
use Rattle.verifier.specs.declared.Ending.{Ending}
use Rattle.verifier.specs.Gates.{Opened, Gated, Ready, verdict, Counted, point_left, ending}
use Rattle.verifier.proofs.GateLaws.{passes}

-- what is written up to a place, and as before past it
front : (l l' : List ℕ) (n : ℕ) (ws : List ℕ) → n ≤ length l' → take n l' ≡ ws → drop n l' ≡ drop n l → l' ≡ over ws l
front l l' n ws h e d =
    let len : n ≡ length ws = sym (length-take-le n l' h) ∙ ap length e in
    sym (take-append-drop n l') ∙ ap₂ ◌++◌ e (d ∙ ap (λ k. drop k l) len)

-- what is used up at a state is what the log there says
used_there : (t : State) → t.put ≤ length t.buffer → used_at t ≡ used_up (log_of t)
used_there t h = λ i. used t.used (sym (length-take-le t.put t.buffer h) i)

module _ (p : List ℕ) (t t' : State) (ch : Source E.Ext) (v : Model ch) where
  -- what a run answers, uses up and leaves is the definition's
  pub ended_is : (n : ℕ) (pt' p' : List ℕ) (r : Result Claimed Refusal) → Ends t t' pt' ch n v r → 4 * n ≤ length pt' → p' ≡ point_left r (4 * n) pt' p → outcome r (used_at t') p' t'.buffer ≡ laid (ended ch v) (lent p t.buffer)
  ended_is n pt' p' (Err e) s h q =
      let l : t'.put ≤ length t'.buffer = omega (arith, s.room, s.kept) in
      let u : used_at t' ≡ used_up (left_by ch v) = used_there t' l ∙ ap used_up s.log in
      let b : p' ≡ over (point_of ch v) p = q ∙ ap (λ w. over w p) (sym s.point) in
      let c : t'.buffer ≡ over (logged_by ch v) t.buffer = front t.buffer t'.buffer t'.put (logged_by ch v) l (ap (λ (w : Words). w.log) s.log) s.rest in
      λ i. outcome (sym s.answer i) (u i) (b i) (c i)
  ended_is n pt' p' (Ok s) a h q =
      let l : t'.put ≤ length t'.buffer = omega (arith, a.room, a.steps.room) in
      let w : take (4 * n) pt' ≡ words_of_point (cells pt' 0 n) = sym (point_is pt' 0 n a.clean (omega arith)) in
      let len : 4 * n ≡ length (words_of_point (cells pt' 0 n)) = sym (length-take-le (4 * n) pt' h) ∙ ap length w in
      let e : p' ≡ over (words_of_point (cells pt' 0 n)) p = q ∙ ap₂ ◌++◌ w (ap (λ k. drop k p) len) in
      let f : t'.buffer ≡ over (take t'.put t'.buffer) t.buffer = front t.buffer t'.buffer t'.put _ l refl a.steps.rest in
      let z : outcome (Ok s) (used_at t') p' t'.buffer ≡ laid (ended ch (accepted (columns s) (cells pt' 0 n) (log_of t'))) (lent p t.buffer) =
      (λ i. outcome (Ok (record { numer = sym (enc_dec a.numer) i; denom = sym (enc_dec a.denom) i })) (used_there t' l i) (e i) (f i)) in
      z ∙ ap (λ m. laid (ended ch m) (lent p t.buffer)) (sym a.verdict)

-- ---- the checks, and what the run asks
some_rounds : (n : ℕ) (empty : Bool) → empty ≡ false → (eqb n 0 && not empty) ≡ false → 1 ≤ n
some_rounds n empty e h = omega (arith, eqb-false n 0 (go (eqb n 0) (sym (ap (λ b. eqb n 0 && not b) e) ∙ h)))
  where
    go : (b : Bool) → (b && true) ≡ false → b ≡ false
    go true q = q
    go false q = refl

pub opened_of : (a : Asked) (points logs : ℕ) (g : Result Outline Refusal) (o : Outline) → g ≡ Ok o → Gated a points logs g → Opened a points logs o
opened_of a points logs g o q h = subst (Gated a points logs) q h

pub ready_of : (a : Asked) {pt : List ℕ} {t : State} {log : List ℕ} (k points : ℕ) {o : Outline} → t.buffer ≡ log → t.challenges ≡ take k a.challenges → t.drawn ≡ a.modes.drawn → Opened a points (length log) o → a.modes.empty ≡ false
    → k ≡ needed_words a.modes.drawn a.rounds → 4 * max_rounds ≤ length pt → Clean pt → Ready a.proof pt t a.rounds o
ready_of a {t = t} k points b q d h em ke r c =
    let g = passes h in
    let l : length t.challenges ≡ k = ap length q ∙ length-take-le k a.challenges (omega (arith, g.chals, ke)) in
    record {
      some = some_rounds a.rounds a.modes.empty em g.some;
      few = g.few;
      shaped = h.shaped;
      canon = g.canon;
      room = omega (arith, g.few, r);
      log_room_fits = omega (arith, g.log_room_fits, ap length b);
      chals = subst (λ b. needed_words b a.rounds ≤ length t.challenges) (sym d) (omega (arith, l, ke));
      points = c;
      clean = record { below = canonical_below t.challenges (ap all_canonical q ∙ ap (λ m. all_canonical (take m a.challenges)) ke ∙ g.clean) };
    }

-- the array for the point found holds that of so many rounds
pub point_fits : (n k : ℕ) → n ≤ max_rounds → k ≡ 4 * max_rounds → 4 * n ≤ k
point_fits n k h e = omega arith

-- ---- the whole
module _ (a : Asked) (b : Lent) where
  pub shut_is : (g : Result Outline Refusal) (e : Refusal) (x : Ending) → g ≡ Err e → Gated a (length b.point) (length b.log) g → x ≡ ending (Err e) unused → outcome x.verdict x.used b.point b.log ≡ verified a b
  unfolding verified
  shut_is g e x q h y =
      let w : first_of (tests a (length b.point) (length b.log)) ≡ refused e = subst (Gated a (length b.point) (length b.log)) q h in
      ap (λ (z : Ending). outcome z.verdict z.used b.point b.log) y ∙ ap (λ t. laid (fronts a t) b) (sym w)

  -- the definition's run over a source of challenges
  abbrev over_source : Source E.Ext → Outcome
  over_source ch = laid (ended ch (verdict a.proof a.rounds ch)) b

  pub run_is : (k : ℕ) (t t' : State) (pt' : List ℕ) {o : Outline} {p' l' : List ℕ} {r : Result Claimed Refusal} {u : Used} → t.buffer ≡ b.log → t.challenges ≡ take k a.challenges → t.drawn ≡ a.modes.drawn
      → Opened a (length b.point) (length b.log) o → a.modes.empty ≡ false → k ≡ needed_words a.modes.drawn a.rounds → Counted a.proof pt' t t' (source_of t) a.rounds r → 4 * a.rounds ≤ length pt'
      → p' ≡ point_left r (4 * a.rounds) pt' b.point → u ≡ used_at t' → l' ≡ t'.buffer → outcome r u p' l' ≡ verified a b
  unfolding verified
  run_is k t t' pt' {p' = p'} {r = r} w q d g em e h f y z l =
      let some = some_rounds a.rounds a.modes.empty em (passes g).some in
      let ch : source_of t ≡ source a.modes.drawn (take (needed_words a.modes.drawn a.rounds) a.challenges) = (λ i. source (d i) ((q ∙ ap (λ k. take k a.challenges) e) i)) in
      (λ i. outcome r (z i) p' (l i)) ∙ ended_is b.point t t' (source_of t) (verdict a.proof a.rounds (source_of t)) a.rounds pt' p' r h f y
      ∙ ap (λ l. laid (ended (source_of t) (verdict a.proof a.rounds (source_of t))) (lent b.point l)) w ∙ ap over_source ch
      ∙ ap (λ f. laid f b) (sym (fail (eqb a.rounds 0) _ _ (ne_eqb a.rounds 0 (λ z. omega (arith, some))))) ∙ ap (λ t. laid (fronts a t) b) (sym g.passes)

  -- no second outcome fits
  pub only_one : (x y : Outcome) → x ≡ verified a b → y ≡ verified a b → x ≡ y
  only_one x y e f = e ∙ sym f
