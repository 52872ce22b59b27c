-- A run told from an earlier place: what was written before it goes before.
-- Assumes nothing.
use Rattle.std.specs.Prelude.{Result, Ok, Err}
use mathlib.Core.Path.{◌≡◌, refl, sym, ◌∙◌, ap}
use mathlib.Core.List.{List}
use Prim.Native.Nat.{ℕ, ◌+◌, ◌-◌, ◌≤◌}
use native.Mathlib.Omega.{arith}
use lib.ListN.{drop}
use lib.Seq.{drop-drop}
use Rattle.field.specs.Ext as E
use Rattle.multilinear.specs.RoundSum.{Claims}
use Rattle.gkr.specs.Run.{Cubic}
use Rattle.gkr.specs.Transcripts.{Words, Source}
use Rattle.refusal.specs.declared.Refusal.{Refusal}
use Rattle.transcript.specs.Log.{State, Steps}
use Rattle.transcript.proofs.Logs.{then, retold}
use Rattle.verifier_round.specs.declared.Claims.{Claims as Claimed}
use Rattle.verifier_round.specs.Verdicts.{Model, answer_of, point_of, left_by}
use Rattle.verifier_round.specs.Rounds.{Stops, Advances}
use Rattle.verifier_rounds.specs.Runs.{Later, Ends}

-- what is as before from a place on is so further on
further : (l m : List ℕ) (p q : ℕ) → p ≤ q → drop p l ≡ drop p m → drop q l ≡ drop q m
further l m p q h e =
    let n : p + (q - p) ≡ q = omega arith in
    ap (λ k. drop k l) (sym n) ∙ sym (drop-drop (q - p) p l) ∙ ap (drop (q - p)) e ∙ drop-drop (q - p) p m ∙ ap (λ k. drop k m) n

-- so many steps on is later
pub later : {t t' : State} {n m : ℕ} {w : Words} → Steps t t' n m w → Later t t'
later a = retold (omega (arith, a.put)) (omega (arith, a.used)) (sym a.log) a

module _ {t₀ t : State} {n m : ℕ} {w : Words} (a : Steps t₀ t n m w) where
  pub later_still : {t' : State} {n' m' : ℕ} {w' : Words} → Steps t t' n' m' w' → Later t₀ t'
  later_still b = later (then a b)

  pub stopped_before : {t' : State} {ch : Source E.Ext} {v₀ v : Model ch} {e : Refusal} → v₀ ≡ v → Stops t t' ch v e → Stops t₀ t' ch v₀ e
  stopped_before {t'} {ch} q s =
      record {
        answer = ap (answer_of ch) q ∙ s.answer;
        point = ap (point_of ch) q ∙ s.point;
        more = omega (arith, a.put, s.more);
        room = omega (arith, a.room, s.room);
        kept = s.kept ∙ a.room;
        drawn = s.drawn ∙ a.drawn;
        challenges = s.challenges ∙ a.challenges;
        log = s.log ∙ ap (left_by ch) (sym q);
        rest = s.rest ∙ further t.buffer t₀.buffer t.put t'.put s.more a.rest;
      }

  pub ended_before : (t' : State) (pt' : List ℕ) {ch : Source E.Ext} (k : ℕ) {v₀ v : Model ch} (r : Result Claimed Refusal) → v₀ ≡ v → Ends t t' pt' ch k v r → Ends t₀ t' pt' ch k v₀ r
  ended_before t' pt' k (Ok s) q h =
      record {
        verdict = q ∙ h.verdict;
        steps = later_still h.steps;
        room = omega (arith, a.room, h.room);
        numer = h.numer;
        denom = h.denom;
        clean = h.clean;
      }
  ended_before t' pt' k (Err e) q h = stopped_before q h

  pub advanced_before : (t' : State) (pt' : List ℕ) (ch : Source E.Ext) (k n' m' N M : ℕ) (v : List (List (Cubic E.Ext)) → List (Claims E.Ext) → Model ch) (r : Result Claimed Refusal)
      → n + n' ≡ N → m + m' ≡ M → Advances t t' pt' ch k n' m' v r → Advances t₀ t' pt' ch k N M v r
  advanced_before t' pt' ch k n' m' N M v (Ok s) x y g = record { verdict = g.verdict; steps = retold x y refl (then a g.steps); numer = g.numer; denom = g.denom; clean = g.clean }
  advanced_before t' pt' ch k n' m' N M v (Err e) x y g = λ mss cs. stopped_before refl (g mss cs)
