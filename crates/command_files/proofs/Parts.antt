-- Parts of a buffer: what was read into it, of a list and of a sheet.
-- Assumes nothing.
use mathlib.Core.Path.{◌≡◌, sym, ◌∙◌, ap, subst}
use mathlib.Core.List.{List}
use Prim.Native.Nat.{ℕ, ◌*◌, ◌≤◌}
use native.Mathlib.Omega.{arith}
use lib.ListN.{length, take, drop}
use lib.Seq.{length-take-le, take_at}
use Rattle.field.specs.Cells.{Clean}
use Rattle.io.specs.Counts.{IsPrefixLen}
use Rattle.wire.specs.WordLaws.{canonical_below}
use Rattle.std.specs.Prelude.{Result, Ok}
use Rattle.refusal.specs.declared.Refusal.{Refusal}
use Rattle.stored_sheet.specs.Sheet.{row_words}
use Rattle.stored_sheet.specs.SheetReads.{SheetEnd, sheet_read}
use Rattle.stored_sheet.proofs.SheetLaws.{is_read, read_front, read_long, read_most, read_fits}
use Rattle.command_files.specs.Rows.{Rows}

pub counts : (r : ℕ) (ws : List ℕ) → r ≤ length ws → IsPrefixLen r ws
counts r ws h = (h, sym (length-take-le r ws h))

pub read_rows : (bs old new : List ℕ) (n : ℕ) {r : Result ℕ Refusal} → ◌≡◌ {A = SheetEnd} (record { answer = r; buffer = new }) (sheet_read bs old) → r ≡ Ok n → Rows (8 * n) new
read_rows bs old new n e d =
    let front : take (8 * n) new ≡ row_words bs =
    ap (take (8 * n)) (read_front bs old new n e d) ∙ take_at (row_words bs) (drop (length (row_words bs)) old) (8 * n) (read_long bs old new n e d) in
    record {
      counts = counts (8 * n) new (read_fits bs old new n e d);
      most = omega (arith, read_most bs old new n e d);
      clean = subst (λ (x : List ℕ). Clean x) (sym front) (record { below = canonical_below (row_words bs) (is_read bs old new n e d).canonical });
    }
