-- The log's buffer keeps its length, and has room left.
-- Assumes nothing.
use mathlib.Core.Path.{◌≡◌, ap, ◌∙◌}
use mathlib.Core.List.{List}
use Prim.Native.Nat.{ℕ, ◌+◌, ◌≤◌}
use native.Mathlib.Omega.{arith}
use lib.ListN.{length, length-append, length-drop}
use lib.Seq.{length-take-le}
use Rattle.std.proofs.Common.{length-take}
use Rattle.field.specs.Ext as E
use Rattle.multilinear.specs.RoundSum.{Claims}
use Rattle.gkr.specs.Transcripts.{Words, Source}
use Rattle.transcript.specs.Log.{Drawing, Observing, State, Steps, log_of}
use Rattle.prover_layer.specs.Columns.{claims}
use Rattle.prover_rounds.specs.Layers.{observed_claims, RoundClosed}

-- where the log ends before the buffer does: past the log the buffer is as it was
pub room_after : {s s' : State} {n m : ℕ} {t : Words} (k : ℕ) → 1 ≤ k → s.put + n + k ≤ length s.buffer → Steps s s' n m t → s'.put + k ≤ length s'.buffer
room_after {s} {s'} k o h a = omega (arith, a.put, ap length a.rest, length-drop s'.put s.buffer, length-drop s'.put s'.buffer)

pub kept_length : {s s' : State} {n m : ℕ} {t : Words} (k : ℕ) → 1 ≤ k → s.put + n + k ≤ length s.buffer → Steps s s' n m t → length s'.buffer ≡ length s.buffer
kept_length {s} {s'} k o h a = omega (arith, a.put, ap length a.rest, length-drop s'.put s.buffer, length-drop s'.put s'.buffer)

-- where the log has as many words as are said
full_length : {s s' : State} {n m : ℕ} {t : Words} → s.put + n ≤ length s.buffer → length t.log ≡ s.put + n → Steps s s' n m t → length s'.buffer ≡ length s.buffer
full_length {s} {s'} h e a =
    let q = ap (λ (t : Words). length t.log) a.log ∙ e in
    omega (arith, a.put, q, ap length a.rest, length-take s'.put s'.buffer, length-drop s'.put s.buffer, length-drop s'.put s'.buffer)

observed_length : (x : E.Ext) (t : Words) → length (Observing.observe x t).log ≡ length t.log + 4
observed_length x t = length-append t.log _

pub once_observed : {s s' : State} (x : E.Ext) → s.put + 4 ≤ length s.buffer → Steps s s' 4 0 (Observing.observe x (log_of s)) → length s'.buffer ≡ length s.buffer
once_observed {s} x h a = full_length h (omega (arith, observed_length x (log_of s), length-take-le s.put s.buffer (omega arith))) a

closed_length : (ch : Source E.Ext) (c : Claims E.Ext) (t : Words) → length ((Drawing ch).drawn (observed_claims c t)).log ≡ length t.log + 20
closed_length ch c t =
    let t₁ = Observing.observe c.p0 t in
    let t₂ = Observing.observe c.q0 t₁ in
    let t₃ = Observing.observe c.p1 t₂ in
    let t₄ = Observing.observe c.q1 t₃ in
    let d : length ((Drawing ch).drawn t₄).log ≡ length t₄.log + 4 = length-append t₄.log _ in
    omega (arith, d, observed_length c.p0 t, observed_length c.q0 t₁, observed_length c.p1 t₂, observed_length c.q1 t₃)

pub round_closed : {ws pt pt' : List ℕ} {s s' : State} {ch : Source E.Ext} {b : ℕ} → s.put + 20 ≤ length s.buffer → RoundClosed ws pt pt' s s' ch b → length s'.buffer ≡ length s.buffer
round_closed {ws} {s = s} {ch = ch} {b} h C = full_length h (omega (arith, closed_length ch (claims ws b 0) (log_of s), length-take-le s.put s.buffer (omega arith))) C.steps
