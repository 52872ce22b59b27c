-- No second answer and no second log fit the loops over a proof, but for the sponge. Of the point only the coordinates are said: it is an array of the caller's own.
-- Assumes nothing.
use Rattle.std.specs.Prelude.{◌≡◌, Result, Ok, Err, List, ℕ, length, take}
use Rattle.std.proofs.Common.{sym, ◌∙◌, ap, arith, length-take-le}
use Rattle.field.specs.Ext as E
use Rattle.field.specs.ElementLaws.{is_unique}
use Rattle.gkr.specs.Run.{Frac}
use Rattle.gkr.specs.Transcripts.{Words, Source}
use Rattle.refusal.specs.declared.Refusal.{Refusal}
use Rattle.transcript.specs.Log.{State}
use Rattle.transcript.specs.LogLaws.{SameState, buffer_unique, steps_unique}
use Rattle.verifier_round.specs.declared.Claims.{Claims as Claimed}
use Rattle.verifier_round.specs.declared.Sums.{Sums}
use Rattle.verifier_round.specs.Verdicts.{Model, answer_of}
use Rattle.verifier_round.specs.Rounds.{Stops}
use Rattle.verifier_round.specs.AdvanceLaws.{canon_unique, accepted_parts, accepted_or_refused, stops_unique}
use Rattle.verifier_rounds.specs.Runs.{Summed, Accepts, Ends}

-- the claim, eq, and where the run stands
pub summed_unique : {bs pt pt' pt'' : List ℕ} {t t' t'' : State} {ch : Source E.Ext} {from k : ℕ} {s₀ r s : Sums} → Summed bs pt pt' t t' ch from k s₀ r → Summed bs pt pt'' t t'' ch from k s₀ s
    → (r.claim ≡ s.claim) × (r.eq ≡ s.eq) × SameState t' t''
summed_unique h h' = (is_unique h.claim h'.claim, is_unique h.eq h'.eq, steps_unique h.steps h'.steps)

module _ (t : State) (ch : Source E.Ext) (n : ℕ) (v : Model ch) where
  -- where the log ends
  accepts_put : {t' : State} {p : List ℕ} {s : Claimed} → Accepts t t' p ch n v s → length (take t'.put t'.buffer) ≡ t'.put
  accepts_put {t'} h = length-take-le t'.put t'.buffer (omega (arith, h.room, h.steps.room))

  accepts_unique : {t' t'' : State} {pt' pt'' : List ℕ} {a b : Claimed} → Accepts t t' pt' ch n v a → Accepts t t'' pt'' ch n v b → (a ≡ b) × SameState t' t''
  accepts_unique {t'} {t''} h h' =
      let e = accepted_parts ch (sym h.verdict ∙ h'.verdict) in
      let l = ap (λ (u : Words). u.log) e.2 in
      let p : t'.put ≡ t''.put = sym (accepts_put h) ∙ ap length l ∙ accepts_put h' in
      let x = canon_unique h.numer h'.numer (ap (λ (f : Frac E.Ext). f.p) e.0) in
      let y = canon_unique h.denom h'.denom (ap (λ (f : Frac E.Ext). f.q) e.0) in (
        λ i. record { numer = x i; denom = y i },
        record {
          buffer = buffer_unique t.buffer t' t'' p e.2 h.steps.rest h'.steps.rest;
          put = p;
          used = ap (λ (u : Words). u.used) e.2;
          drawn = h.steps.drawn ∙ sym h'.steps.drawn;
          challenges = h.steps.challenges ∙ sym h'.steps.challenges;
        },
      )

  one_way : {t' t'' : State} {p : List ℕ} {a : Claimed} {e : Refusal} → Accepts t t' p ch n v a → Stops t t'' ch v e → ⊥
  one_way h s = accepted_or_refused (ap (answer_of ch) (sym h.verdict) ∙ s.answer)

  pub ends_unique : (t' t'' : State) (pt' pt'' : List ℕ) (r s : Result Claimed Refusal) → Ends t t' pt' ch n v r → Ends t t'' pt'' ch n v s → (r ≡ s) × SameState t' t''
  ends_unique t' t'' pt' pt'' (Ok a) (Ok b) h h' = let e = accepts_unique h h' in (λ i. Ok (e.0 i), e.1)
  ends_unique t' t'' pt' pt'' (Ok a) (Err e) h h' = absurd (one_way h h')
  ends_unique t' t'' pt' pt'' (Err e) (Ok b) h h' = absurd (one_way h' h)
  ends_unique t' t'' pt' pt'' (Err e) (Err f) h h' = let u = stops_unique h h' in (λ i. Err (u.0 i), u.1)
