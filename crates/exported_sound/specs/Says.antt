-- What the exported calls say of a sheet: verifying tells two claims, and evaluating the sheet's rows at the point that it wrote tells the same.
-- Assumes nothing.
use Rattle.std.specs.Prelude.{◌≡◌, Bool, true, List, ◌⊎◌, ℕ, ◌≤◌, take}
use Rattle.field.specs.Ext as E
use Rattle.field.specs.ExtRing.{ExtRing}
use Rattle.field.specs.Extension.{Extension}
use Rattle.gkr.specs.Run.{Frac}
use Rattle.gkr.specs.Sizes.{point_words}
use Rattle.gkr.specs.Transcripts.{Words}
use Rattle.domain.specs.Rows.{ZeroRow}
use Rattle.soundness.specs.Few.{AtMost}
use Rattle.soundness.specs.Fractions.{SumsToZero}
use Rattle.soundness.specs.Steps.{bad}
use Rattle.soundness.specs.Challenges.{RootIs}
use Rattle.transcript.specs.declared.Used.{Used}
use Rattle.transcript.specs.Used.{unused}
use Rattle.sizes.specs.Sizes.{row_count}
use Rattle.prover_tree.specs.Nodes.{node}
use Rattle.verifier.specs.Verified.{Asked, Lent, asked}
use Rattle.verdict_sound.specs.Says.{stated, Unlucky, Table, BadInLog}
use Rattle.accudrina.specs.Modes.{LIVE, has, verifying_of}
use Rattle.accudrina.specs.Calls.{Returned, verifying, evaluating}
use Rattle.exported.specs.Exported.{done}

-- a proof's bytes, the rounds, the word of modes, challenges
pub record Handed : Type 0 where
  pub proof : List ℕ
  pub rounds : ℕ
  pub modes : ℕ
  pub challenges : List ℕ

-- what the exported call returns of them, and the call of the verifier that it makes
abbrev pub returned : Handed → Lent → Returned Lent
returned h v = verifying h.proof h.rounds h.modes h.challenges v

abbrev pub call : Handed → Asked
call h = asked h.proof h.rounds (verifying_of h.modes) h.challenges

-- BOTH CALLS RETURN 0 AND TELL THE SAME TWO ELEMENTS: verifying, of one round or more and whatever it used up, and evaluating the rows at the front of the point buffer
pub record Checked (h : Handed) (v : Lent) (rows : List ℕ) : Type 0 where
  pub some : 1 ≤ h.rounds
  pub claims : Frac E.Ext
  pub spent : Used
  pub accepted : (returned h v).told ≡ done 0 claims spent
  pub valued : evaluating rows (take (point_words h.rounds) (returned h v).buffers.point) ≡ done h.rounds claims unused

-- THEN the sum of all rows is zero over the proof's q0, or a challenge was bad
abbrev pub ExportedSound : Type 0
ExportedSound = (h : Handed) (v : Lent) (rows : List ℕ) → Checked h v rows → RootIs Extension (node rows) h.rounds (stated (call h)).q0 ⊎ Unlucky (call h) (node rows)

-- and with the bit LIVE: no row of the sheet is over zero and its fractions add up to zero, or a challenge was bad
abbrev pub ExportedLive : Type 0
ExportedLive =
    (h : Handed) (v : Lent) (rows : List ℕ) → has LIVE h.modes ≡ true → Checked h v rows
    → ((¬ ZeroRow ExtRing (node rows) (row_count rows)) × SumsToZero ExtRing (node rows) (row_count rows)) ⊎ Unlucky (call h) (node rows)

-- WHATEVER THE SOURCE of the challenges: the same, or the log that the call left shows one that is among at most three values which the log before it fixes
pub record ExportedDrawn : Type 0 where
  pub table : Table
  pub few : (f : ℕ → Frac E.Ext) (sized : Bool) (n : ℕ) (u : Words) → AtMost 3 (bad Extension f (table sized n u))
  pub sound : (h : Handed) (v : Lent) (rows : List ℕ) → Checked h v rows → RootIs Extension (node rows) h.rounds (stated (call h)).q0 ⊎ BadInLog table (call h) v (node rows)
  pub live : (h : Handed) (v : Lent) (rows : List ℕ) → has LIVE h.modes ≡ true → Checked h v rows
      → ((¬ ZeroRow ExtRing (node rows) (row_count rows)) × SumsToZero ExtRing (node rows) (row_count rows)) ⊎ BadInLog table (call h) v (node rows)
