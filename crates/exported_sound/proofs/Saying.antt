-- What the exported calls say, from what the calls that they make say.
-- Assumes nothing.
use mathlib.Core.Path.{◌≡◌, sym, ◌∙◌, ap}
use mathlib.Core.List.{List}
use Prim.Native.Nat.{ℕ}
use lib.ListN.{take}
use Rattle.field.specs.Element.{enc}
use Rattle.gkr.specs.Sizes.{point_words}
use Rattle.prover_tree.specs.Nodes.{node}
use Rattle.verifier.specs.Verified.{Lent}
use Rattle.accudrina.specs.Modes.{verifying_bits, untaken}
use Rattle.accudrina.specs.Calls.{verifying_taken, evaluating}
use Rattle.verdict_sound.specs.Says as Verdict
use Rattle.verdict_sound.proofs.Saying.{drawn_sound}
use Rattle.verdict_sound.proofs.Sheets.{sheet_matches, sheet_sound, sheet_live, sheet_drawn}
use Rattle.exported_sound.specs.Says.{Handed, returned, call, Checked, ExportedSound, ExportedLive, ExportedDrawn}
use Rattle.exported_sound.proofs.Telling.{taken, accepted_told, evaluated_told}

-- the call took all its modes
runs : (h : Handed) (v : Lent) (rows : List ℕ) → Checked h v rows → returned h v ≡ verifying_taken (call h) v
runs h v rows c = taken (untaken verifying_bits h.modes) v (verifying_taken (call h) v) 0 c.claims c.spent c.accepted

-- so the call that it makes is checked against the sheet
checked : (h : Handed) (v : Lent) (rows : List ℕ) → Checked h v rows → Verdict.Checked (call h) v rows
checked h v rows c =
    let e = runs h v rows c in
    record {
      some = c.some;
      numer = enc c.claims.p;
      denom = enc c.claims.q;
      accepted = accepted_told _ c.claims _ c.spent (sym (ap (λ r. r.told) e) ∙ c.accepted);
      valued = evaluated_told rows _ h.rounds c.claims (sym (ap (λ r. evaluating rows (take (point_words h.rounds) r.buffers.point)) e) ∙ c.valued);
    }

pub exported_sound : ExportedSound
exported_sound h v rows c = sheet_sound (call h) v rows (checked h v rows c)

pub exported_live : ExportedLive
exported_live h v rows l c = sheet_live (call h) v rows l (checked h v rows c)

pub exported_drawn : ExportedDrawn
exported_drawn = record {
  table = drawn_sound.table;
  few = drawn_sound.few;
  sound = λ h v rows c. drawn_sound.sound (call h) v (node rows) (sheet_matches (call h) v rows (checked h v rows c)).1;
  live = λ h v rows l c. sheet_drawn (call h) v rows l (checked h v rows c);
}
