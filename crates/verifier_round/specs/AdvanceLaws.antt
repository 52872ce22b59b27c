-- No second answer and no second log fit the end of a layer, but for the sponge. Of the point only the coordinates so far are said: it is an array of the caller's own.
-- Assumes nothing.
use Rattle.std.specs.Prelude.{◌≡◌, Result, Ok, Err, refl, ℕ, length, drop}
use Rattle.std.proofs.Common.{sym, ◌∙◌, ap, ap₂, arith, take-append-drop, length-take-le}
use mathlib.Core.List.{List, [], ◌++◌}
use Rattle.field.specs.Ext as E
use Rattle.field.specs.Element.{dec, Canon}
use Rattle.field.specs.ElementLaws.{is_unique}
use Rattle.field.specs.declared.Ext.{Ext}
use Rattle.field.specs.Cells.{cells}
use Rattle.multilinear.specs.RoundSum.{Claims}
use Rattle.gkr.specs.Run.{Frac, Cubic}
use Rattle.gkr.specs.Transcripts.{Words, Source}
use Rattle.gkr.specs.Gkr as Gkr
use Rattle.gkr.specs.Gkr.{accepted}
use Rattle.refusal.specs.declared.Refusal.{Refusal}
use Rattle.transcript.specs.Log.{State, log_of}
use Rattle.transcript.specs.LogLaws.{SameState, buffer_unique}
use Rattle.verifier_round.specs.declared.Claims.{Claims as Claimed}
use Rattle.verifier_round.specs.Values.{columns}
use Rattle.verifier_round.specs.Verdicts.{Model, answer_of, logged_by}
use Rattle.verifier_round.specs.Rounds.{Goes, Stops, Advances}

-- canonical words that stand for one element
pub canon_unique : {r s : Ext} → Canon r → Canon s → dec r ≡ dec s → r ≡ s
canon_unique h k e = is_unique (record { canon = h; value = e }) (record { canon = k; value = refl })

-- what an accepting verdict holds
pub accepted_parts : (ch : Source E.Ext) {f g : Frac E.Ext} {y z : List E.Ext} {t u : Words} → ◌≡◌ {A = Model ch} (accepted f y t) (accepted g z u) → (f ≡ g) × (y ≡ z) × (t ≡ u)
accepted_parts ch e = (cc, cc, cc)

pub accepted_or_refused : {a : Claimed} {e : Refusal} → ◌≡◌ {A = Result Claimed Refusal} (Ok a) (Err e) → ⊥
accepted_or_refused h = let z : ◌≡◌ {A = ℕ} 0 1 = cc in omega arith

pub stops_put : {t t' : State} {ch : Source E.Ext} {w : Model ch} {e : Refusal} → Stops t t' ch w e → t'.put ≡ length (logged_by ch w)
stops_put {t' = t'} h = sym (length-take-le t'.put t'.buffer (omega (arith, h.room, h.kept))) ∙ ap (λ (u : Words). length u.log) h.log

pub stops_buffer : {t t' : State} {ch : Source E.Ext} {w : Model ch} {e : Refusal} → Stops t t' ch w e → t'.buffer ≡ logged_by ch w ++ drop (length (logged_by ch w)) t.buffer
stops_buffer {t} {t'} h =
    sym (take-append-drop t'.put t'.buffer) ∙ ap₂ ◌++◌ (ap (λ (u : Words). u.log) h.log) (h.rest ∙ ap (λ (a : ℕ). drop a t.buffer) (stops_put h))

pub stops_unique : {t t' t'' : State} {ch : Source E.Ext} {w : Model ch} {e e' : Refusal} → Stops t t' ch w e → Stops t t'' ch w e'
    → (e ≡ e') × SameState t' t''
stops_unique {t} {t'} {t''} {e = e} {e' = e'} h k =
    let r : ◌≡◌ {A = Result Claimed Refusal} (Err e) (Err e') = sym h.answer ∙ k.answer in
    let a : e ≡ e' = cc in
    let p : t'.put ≡ t''.put = stops_put h ∙ sym (stops_put k) in (
      a,
      record {
        buffer = buffer_unique t.buffer t' t'' p (h.log ∙ sym k.log) h.rest k.rest;
        put = p;
        used = ap (λ (u : Words). u.used) (h.log ∙ sym k.log);
        drawn = h.drawn ∙ sym k.drawn;
        challenges = h.challenges ∙ sym k.challenges;
      },
    )

module _ (t : State) (ch : Source E.Ext) (k n m : ℕ) (v : List (List (Cubic E.Ext)) → List (Claims E.Ext) → Model ch) where
  ends_in : {p : List ℕ} {t' : State} {s : Claimed} → Goes t t' p ch k n m v s → v [] [] ≡ accepted (columns s) (cells p 0 k) (log_of t')
  unfolding Gkr.rounds
  ends_in h = h.verdict [] []

  goes_unique : {pt' pt'' : List ℕ} {t' t'' : State} {a b : Claimed} → Goes t t' pt' ch k n m v a → Goes t t'' pt'' ch k n m v b → (a ≡ b) × (cells pt' 0 k ≡ cells pt'' 0 k) × SameState t' t''
  goes_unique {t' = t'} {t'' = t''} h h' =
      let e = accepted_parts ch (sym (ends_in h) ∙ ends_in h') in
      let x = canon_unique h.numer h'.numer (ap (λ (f : Frac E.Ext). f.p) e.0) in
      let y = canon_unique h.denom h'.denom (ap (λ (f : Frac E.Ext). f.q) e.0) in
      let p : t'.put ≡ t''.put = h.steps.put ∙ sym h'.steps.put in (
        λ i. record { numer = x i; denom = y i },
        e.1,
        record {
          buffer = buffer_unique t.buffer t' t'' p e.2 h.steps.rest h'.steps.rest;
          put = p;
          used = h.steps.used ∙ sym h'.steps.used;
          drawn = h.steps.drawn ∙ sym h'.steps.drawn;
          challenges = h.steps.challenges ∙ sym h'.steps.challenges;
        },
      )

  one_way : {p : List ℕ} {t' t'' : State} {a : Claimed} {e : Refusal} → Goes t t' p ch k n m v a → Stops t t'' ch (v [] []) e → ⊥
  one_way h s = accepted_or_refused (ap (answer_of ch) (sym (ends_in h)) ∙ s.answer)

  pub advances_unique : (pt' pt'' : List ℕ) (t' t'' : State) (r s : Result Claimed Refusal) → Advances t t' pt' ch k n m v r → Advances t t'' pt'' ch k n m v s → (r ≡ s) × SameState t' t''
  advances_unique pt' pt'' t' t'' (Ok a) (Ok b) h h' = let e = goes_unique h h' in (λ i. Ok (e.0 i), e.2)
  advances_unique pt' pt'' t' t'' (Ok a) (Err e) h h' = absurd (one_way h (h' [] []))
  advances_unique pt' pt'' t' t'' (Err e) (Ok b) h h' = absurd (one_way h' (h [] []))
  advances_unique pt' pt'' t' t'' (Err e) (Err f) h h' = let u = stops_unique (h [] []) (h' [] []) in (λ i. Err (u.0 i), u.1)
