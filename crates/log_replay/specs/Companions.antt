-- What stands beside `replayed`: the log that the verifier left replays, and no other log of the same challenges does.
-- Assumes nothing.
use Rattle.std.specs.Prelude.{◌≡◌, Err, true, false, List, ℕ, ◌+◌, ◌*◌, ◌^◌, ◌<◌, ◌≤◌, length, get_or, set}
use Rattle.field.specs.Base.{P}
use Rattle.refusal.specs.declared.Refusal.{Refusal}
use Rattle.refusal.specs.Numbers.{report_of}
use Rattle.refusal.specs.Tests.{first_of}
use Rattle.refusal.specs.Fronts.{over}
use Rattle.verifier.specs.Verified as Verifier
use Rattle.verifier.specs.Verified.{Asked, Lent}
use Rattle.log_replay.specs.Replayed.{Kept, kept, of_run, outcome, replayed}

-- what a call of the verifier writes
abbrev pub written : Asked → Lent → Verifier.Outcome
written a b = Verifier.fronts a (first_of (Verifier.tests a (length b.point) (length b.log)))

-- THE VERIFIER'S OWN LOG: of a verdict that came of a run, accepted or rejected, in every mode and for both versions of a proof, the replay has the verdict, the counts and the point
abbrev pub Replays : Type 0
Replays =
    (a : Asked) (b : Lent) (point : List ℕ) → of_run (written a b).answer ≡ true → 4 * a.rounds ≤ length point
    → let o = written a b in replayed (kept a.proof a.rounds a.modes o.buffers.log) point ≡ outcome o.answer o.used (over o.buffers.point point)

-- a replay that is not refused by 24 to 26
abbrev pub Held : Kept → (point : List ℕ) → Type 0
Held k point = (e : Refusal) → (replayed k point).answer ≡ Err e → ¬ ((24 ≤ (report_of e).number) × ((report_of e).number ≤ 26))

-- a word that was sampled: its bit is set, and the rest is canonical
pub record Sampled (w : ℕ) : Type 0 where
  pub marked : 2 ^ 31 ≤ w
  pub canonical : w < 2 ^ 31 + P

-- ANOTHER WORD: of a log that holds, of a run, no word can be exchanged for another; but for a sampled one, where challenges are not drawn, exchanged for another sampled one: that is the log of another run
abbrev pub OneWord : Type 0
OneWord =
    (k : Kept) (point : List ℕ) (i w : ℕ) → Held k point → of_run (replayed k point).answer ≡ true → i < length k.log → ¬ (w ≡ get_or k.log i 0)
    → Held (kept k.proof k.rounds k.modes (set k.log i w)) point
    → (k.modes.drawn ≡ false) × Sampled w × Sampled (get_or k.log i 0)
