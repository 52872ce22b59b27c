-- Four words put into a list of any words, and a column that is filled entry by entry.
-- Assumes nothing.
use mathlib.Core.Path.{◌≡◌, sym, ◌∙◌, ap, ap₂}
use mathlib.Core.List.{List, [], ◌∷◌, ◌++◌}
use Prim.Native.Nat.{ℕ, ◌+◌, ◌*◌, ◌≤◌}
use native.Mathlib.Omega.{arith}
use lib.ListN.{length, take, drop}
use lib.Seq.{sets}
use borrow.Rule.Slice.PartMut.{put_mid}
use Rattle.std.proofs.lemmas.List.Edits.{sets-eq}
use Rattle.std.proofs.lemmas.List.{drop-drop}
use Rattle.std.proofs.Common.{append_assoc}
use Rattle.field.specs.Ext as E
use Rattle.field.specs.declared.Ext.{Ext}
use Rattle.field.specs.Element.{dec, words, Canon}
use Rattle.field.specs.ElementLaws.{enc_dec}
use Rattle.field.specs.Column.{flat}
use Rattle.field.proofs.ColumnLaws.{put_next}

-- four words in the place of those of cell i
pub put_part : (s l : List ℕ) (i k : ℕ) (e : Ext) → Canon e → k ≡ 4 → 4 * i + k ≤ length s → l ≡ (e.c0 ∷ e.c1 ∷ e.c2 ∷ e.c3 ∷ []) → put_mid (4 * i) k s l ≡ sets s (4 * i) (words (dec e))
put_part s l i k e h four room f =
    let w : l ≡ words (dec e) = f ∙ ap (λ (r : Ext). r.c0 ∷ r.c1 ∷ r.c2 ∷ r.c3 ∷ []) (sym (enc_dec h)) in
    let d : drop k (drop (4 * i) s) ≡ drop (4 * i + 4) s = drop-drop k (4 * i) s ∙ ap (λ n. drop (4 * i + n) s) four in
    ap₂ (λ (m r : List ℕ). take (4 * i) s ++ (m ++ r)) w d
    ∙ sym (append_assoc (take (4 * i) s) (words (dec e)) (drop (4 * i + 4) s))
    ∙ sym (sets-eq (words (dec e)) s (4 * i) (omega arith))

-- the next entry of a column
pub fill_turn : (f : ℕ → E.Ext) (n : ℕ) (d : List ℕ) {l m : List ℕ} {x : E.Ext} → 4 * n + 4 ≤ length d → l ≡ flat f n ++ drop (4 * n) d → m ≡ sets l (4 * n) (words x) → x ≡ f n
    → m ≡ flat f (n + 1) ++ drop (4 * (n + 1)) d
fill_turn f n d h e s q = s ∙ ap₂ (λ (t : List ℕ) (y : E.Ext). sets t (4 * n) (words y)) e q ∙ put_next f n d h
