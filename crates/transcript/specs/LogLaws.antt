-- No second start and no second log fit: the same events lead from one start to one buffer and one position, but for the sponge, of which any that holds will do.
-- Assumes nothing.
use Rattle.std.specs.Prelude.{◌≡◌, Bool, List, ◌++◌, ℕ, drop}
use Rattle.std.proofs.Common.{sym, ◌∙◌, ap, ap₂, take-append-drop}
use Rattle.field.specs.Ext as E
use Rattle.field.specs.Element.{Is}
use Rattle.field.specs.ElementLaws.{is_unique}
use Rattle.gkr.specs.Transcripts.{Words}
use Rattle.field.specs.declared.Ext.{Ext}
use Rattle.shake.specs.Drawn.{Holds}
use Rattle.shake.specs.HoldsLaws as Sponges
use Rattle.transcript.specs.Log.{State, Steps, log_of}

-- the same state, but for the sponge
pub record SameState (s s' : State) : Type 0 where
  pub buffer : s.buffer ≡ s'.buffer
  pub put : s.put ≡ s'.put
  pub used : s.used ≡ s'.used
  pub drawn : s.drawn ≡ s'.drawn
  pub challenges : s.challenges ≡ s'.challenges

-- no second start fits
pub start_unique : {ws ch : List ℕ} {d : Bool} {s s' : State} → (s.buffer ≡ ws) × (s.challenges ≡ ch) × (s.drawn ≡ d) → (s.put ≡ 0) × (s.used ≡ 0) × ((m : List ℕ) → Holds s.sponge m)
    → (s'.buffer ≡ ws) × (s'.challenges ≡ ch) × (s'.drawn ≡ d) → (s'.put ≡ 0) × (s'.used ≡ 0) × ((m : List ℕ) → Holds s'.sponge m) → s ≡ s'
start_unique b n b' n' = λ i. record {
  buffer = (b.0 ∙ sym b'.0) i;
  put = (n.0 ∙ sym n'.0) i;
  used = (n.1 ∙ sym n'.1) i;
  sponge = Sponges.start_unique n.2 n'.2 i;
  drawn = (b.2 ∙ sym b'.2) i;
  challenges = (b.1 ∙ sym b'.1) i;
}

-- a buffer is its log, and past it what it held
pub buffer_unique : (ws : List ℕ) (s s' : State) → s.put ≡ s'.put → log_of s ≡ log_of s' → drop s.put s.buffer ≡ drop s.put ws → drop s'.put s'.buffer ≡ drop s'.put ws → s.buffer ≡ s'.buffer
buffer_unique ws s s' e t d d' =
    sym (take-append-drop s.put s.buffer) ∙ ap₂ ◌++◌ (ap (λ (u : Words). u.log) t) (d ∙ ap (λ (a : ℕ). drop a ws) e ∙ sym d') ∙ take-append-drop s'.put s'.buffer

pub log_unique : (ws : List ℕ) (s s' : State) → s.put ≡ s'.put → s.drawn ≡ s'.drawn → s.challenges ≡ s'.challenges → log_of s ≡ log_of s' → drop s.put s.buffer ≡ drop s.put ws → drop s'.put s'.buffer ≡ drop s'.put ws → SameState s s'
log_unique ws s s' e b c t d d' = record { buffer = buffer_unique ws s s' e t d d'; put = e; used = ap (λ (u : Words). u.used) t; drawn = b; challenges = c }

pub steps_unique : {s m m' : State} {n k : ℕ} {t : Words} → Steps s m n k t → Steps s m' n k t → SameState m m'
steps_unique {s} {m} {m'} h h' = log_unique s.buffer m m' (h.put ∙ sym h'.put) (h.drawn ∙ sym h'.drawn) (h.challenges ∙ sym h'.challenges) (h.log ∙ sym h'.log) h.rest h'.rest

-- with the challenge that was sampled
pub drawn_unique : {s m m' : State} {r r' : Ext} {n k : ℕ} {t : Words} {x : E.Ext} → Steps s m n k t × Is r x → Steps s m' n k t × Is r' x → SameState m m' × (r ≡ r')
drawn_unique h h' = (steps_unique h.0 h'.0, is_unique h.1 h'.1)
