-- The answers of the rows' checks, and the bytes of a sheet one after the other.
-- Assumes nothing.
use Rattle.std.specs.Prelude.{◌≡◌, Ok, Err, Some, None, List, [], ◌∷◌, ℕ, ◌+◌, ◌*◌, ◌/◌, ◌%◌, ◌<◌, ◌≤◌, length}
use Rattle.std.proofs.Common.{sym, ◌∙◌, ap, ap₂, subst, arith, eq-eqb, ne_eqb}
use Rattle.refusal.specs.Tests.{passed, refused, first_of}
use Rattle.refusal.specs.declared.Refusal.{Refusal}
use Rattle.refusal.specs.declared.Refusal.TheVariants.{RaggedRows, BadWord}
use Rattle.refusal.specs.declared.Words.TheVariants.{Rows}
use Rattle.wire.specs.Bytes.{bytes_of}
use Rattle.wire.specs.Words.{bad_place}
use Rattle.wire.specs.Written.{Wrote}
use Rattle.wire.specs.WrittenLaws.{wrote_then, wrote_front}
use Rattle.stored_sheet.specs.Sheet.{sheet}
use Rattle.stored_sheet.specs.SheetReads.{sized, tested, write_answer, SheetEnd, sheet_end, sheet_written}
use Rattle.stored_sheet.proofs.SheetLaws.{write_done}
use Rattle.stored_sheet.proofs.SheetSteps.{size, sized_refused, sized_bad, sized_passed}

module _ (ws : List ℕ) (room : ℕ) where
  abbrev need : ℕ
  need = 3 + 4 * length ws

  pub ragged : (length ws % 8 ≡ 0 → ⊥) → Err RaggedRows ≡ write_answer ws room
  unfolding write_answer first_of
  ragged h = sym (rw (ne_eqb (length ws % 8) 0 h))

  module _ (w : length ws % 8 ≡ 0) where
    inside : write_answer ws room ≡ tested need (first_of (sized (length ws / 8) need room ws))
    unfolding write_answer first_of
    inside = rw (eq-eqb (length ws % 8) 0 w)

    pub write_refused : (e : Refusal) → size (length ws / 8) need room ≡ refused e → Err e ≡ write_answer ws room
    write_refused e h = sym (inside ∙ ap (tested need) (sized_refused (length ws / 8) need room ws e h))

    pub write_bad : (k : ℕ) → size (length ws / 8) need room ≡ passed → Some k ≡ bad_place ws → Err (BadWord k Rows) ≡ write_answer ws room
    write_bad k h e = sym (inside ∙ ap (tested need) (sized_bad (length ws / 8) need room ws k h e))

    pub write_all : size (length ws / 8) need room ≡ passed → None ≡ bad_place ws → Ok (3 + 4 * length ws) ≡ write_answer ws room
    write_all h e = sym (inside ∙ ap (tested need) (sized_passed (length ws / 8) need room ws h e))

-- THE BYTES
pub sheet_put : (ws l0 l1 l2 l3 l4 : List ℕ) (high low a b c d : ℕ) → high ≡ length ws / 8 / 256 → low ≡ length ws / 8 % 256
    → Wrote l0 l1 0 a (1 ∷ []) → Wrote l1 l2 a b (high ∷ []) → Wrote l2 l3 b c (low ∷ []) → Wrote l3 l4 c d (bytes_of ws) → Wrote l0 l4 0 d (sheet ws)
unfolding sheet
sheet_put ws l0 l1 l2 l3 l4 high low a b c d h l p q r s =
    let x = wrote_then l0 l1 l2 0 a b (1 ∷ []) (high ∷ []) p q in
    let y = wrote_then l0 l2 l3 0 b c (1 ∷ high ∷ []) (low ∷ []) x r in
    subst (λ k. Wrote l0 l4 0 d k) (ap₂ (λ (x y : ℕ). 1 ∷ x ∷ y ∷ bytes_of ws) h l) (wrote_then l0 l3 l4 0 c d (1 ∷ high ∷ low ∷ []) (bytes_of ws) y s)

-- what the writer ends with
module _ (ws old : List ℕ) (n : ℕ) (e : Ok n ≡ write_answer ws (length old)) where
  pub write_room : (3 + 4 * length ws ≤ length old) × (length ws < 65536)
  write_room = let r = write_done ws (length old) n (sym e) in (r.room, omega (arith, r.most, r.whole))

  pub write_rows : (new : List ℕ) (m : ℕ) → Wrote old new 0 m (sheet ws) → ◌≡◌ {A = SheetEnd} (record { answer = Ok n; buffer = new }) (sheet_written ws old)
  write_rows new m w = ap (λ x. record { answer = Ok n; buffer = x }) (wrote_front old new m (sheet ws) w) ∙ ap (λ x. sheet_end x (sheet ws) old) e
