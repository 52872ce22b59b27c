-- What a line puts into the words, and where they go on.
-- Assumes nothing.
use Rattle.std.proofs.Common.{◌≡◌, ℕ, ◌+◌, ◌≤◌, Bool, true, false, leb, List, length, Option, Some, None, Result, Ok, Err, sym, refl, ◌∙◌, subst, leb-true}
use Rattle.std.proofs.lemmas.List.Edits.{sets-eq}
use Rattle.std.proofs.lemmas.Slice.{put_mid-paste}
use Rattle.std.proofs.Math.Seq.{take-length}
use borrow.Rule.Slice.PartMut.{put_mid}
use lib.Seq.{sets, length-sets}
use Rattle.field.specs.declared.Ext.{Ext}
use Rattle.wire.specs.Words.{ext_words}
use Rattle.sheet_text.specs.declared.Line.{Line}
use Rattle.sheet_text.specs.declared.PlaceError.{PlaceError}
use Rattle.sheet_text.specs.Reading.{Left, put_single, put_fraction, put_line}

-- Four words in the place of four.
pub put_words : (l : List ℕ) (at : ℕ) (ys vs : List ℕ) → at + length vs ≤ length l → ys ≡ vs → (n : ℕ) → n ≡ length vs → put_mid at n l ys ≡ sets l at vs
put_words l at ys vs h e n k = rw (sets-eq vs l at) (put_mid-paste at n l ys vs (length vs) e (sym k) refl ∙ rw take-length)

-- Where the words go on is within them.
fits_in : Left → Type 0
fits_in left = by left.answer left.words where
  by : Result ℕ PlaceError → List ℕ → Type 0
  by (Ok k) ws = k ≤ length ws
  by (Err e) ws = Unit {0}

single_fits : (at : ℕ) (ws : List ℕ) (e : Ext) (t : Bool) → leb (at + 4) (length ws) ≡ t → fits_in (put_single at ws e)
unfolding put_single fits_in
single_fits at ws e true h = rw h (rw (length-sets ws at (ext_words e)) (leb-true (at + 4) (length ws) h))
single_fits at ws e false h = rw h tt

fraction_fits : (at : ℕ) (ws : List ℕ) (p q : Ext) (t : Bool) → leb (at + 8) (length ws) ≡ t → fits_in (put_fraction at ws p q)
unfolding put_fraction fits_in
fraction_fits at ws p q true h = rw h (rw (length-sets (sets ws at (ext_words p)) (at + 4) (ext_words q), length-sets ws at (ext_words p)) (leb-true (at + 8) (length ws) h))
fraction_fits at ws p q false h = rw h tt

line_fits : (pairs : Bool) (at : ℕ) (ws : List ℕ) (line : Option Line) → at ≤ length ws → fits_in (put_line pairs at ws line)
unfolding put_line fits_in
line_fits pairs at ws (Some Line.Skipped) h = h
line_fits true at ws (Some (Line.Single e)) h = tt
line_fits false at ws (Some (Line.Single e)) h = single_fits at ws e (leb (at + 4) (length ws)) refl
line_fits true at ws (Some (Line.Fraction p q)) h = fraction_fits at ws p q (leb (at + 8) (length ws)) refl
line_fits false at ws (Some (Line.Fraction p q)) h = tt
line_fits pairs at ws None h = tt

pub put_fits : (pairs : Bool) (at k : ℕ) (ws ws' : List ℕ) (line : Option Line) (r : Result ℕ PlaceError) → ◌≡◌ {A = Left} (record { answer = r; words = ws' }) (put_line pairs at ws line) → r ≡ Ok k → at ≤ length ws → k ≤ length ws'
unfolding fits_in
put_fits pairs at k ws ws' line r e d h =
    let f : fits_in (record { answer = r; words = ws' }) = subst (λ (x : Left). fits_in x) (sym e) (line_fits pairs at ws line h) in
    subst (λ (x : Result ℕ PlaceError). fits_in (record { answer = x; words = ws' })) d f
