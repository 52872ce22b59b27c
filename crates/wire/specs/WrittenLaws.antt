-- Laws of writing: two writings in a row, and the turns of a loop that writes.
-- Assumes nothing.
use Rattle.std.specs.Prelude.{◌≡◌, refl, List, [], ◌++◌, ℕ, ◌+◌, ◌≤◌, length, take, drop}
use Rattle.std.proofs.Common.{sym, ◌∙◌, ap, ap₂, append_assoc, append-nil, add-zero, arith, length-append, take-append-drop, drop-drop, take_at, drop_at, length-take-le}
use Rattle.std.proofs.lemmas.List.Edits.{sets, sets-eq}
use Rattle.wire.specs.Written.{Wrote, Writing}

back_on : (pb₀ pb pb' : List ℕ) (a b n : ℕ) → b ≡ a + n → drop b pb' ≡ drop b pb → drop a pb ≡ drop a pb₀ → drop b pb' ≡ drop b pb₀
back_on pb₀ pb pb' a b n e p q = p ∙ ap (λ k. drop k pb) e ∙ sym (drop-drop n a pb) ∙ ap (drop n) q ∙ drop-drop n a pb₀ ∙ ap (λ k. drop k pb₀) (sym e)

pub wrote_then : (pb pb₁ pb₂ : List ℕ) (at a b : ℕ) (xs ys : List ℕ) → Wrote pb pb₁ at a xs → Wrote pb₁ pb₂ a b ys → Wrote pb pb₂ at b (xs ++ ys)
wrote_then pb pb₁ pb₂ at a b xs ys p q =
    record {
      ends = omega (arith, p.ends, q.ends, length-append xs ys);
      front = q.front ∙ ap (λ l. l ++ ys) p.front ∙ append_assoc (take at pb) xs ys;
      back = back_on pb pb₁ pb₂ a b (length ys) q.ends q.back p.back;
    }

pub writing_none : (pb : List ℕ) (at : ℕ) (rest total : List ℕ) → rest ≡ total → Writing pb pb at at rest total
writing_none pb at rest total e = record { ends = ap (λ l. at + length l) e; front = ap (λ l. take at pb ++ l) e; back = refl }

pub writing_next : (pb₀ pb pb' : List ℕ) (at₀ at at' : ℕ) (bs rest rest' total : List ℕ) → rest ≡ bs ++ rest' → Writing pb₀ pb at₀ at rest total
    → Wrote pb pb' at at' bs → Writing pb₀ pb' at₀ at' rest' total
writing_next pb₀ pb pb' at₀ at at' bs rest rest' total e w s =
    record {
      ends = omega (arith, s.ends, w.ends, ap length e ∙ length-append bs rest');
      front = ap (λ l. l ++ rest') s.front ∙ append_assoc (take at pb) bs rest' ∙ ap (λ l. take at pb ++ l) (sym e) ∙ w.front;
      back = back_on pb₀ pb pb' at at' (length bs) s.ends s.back w.back;
    }

pub writing_end : (pb₀ pb : List ℕ) (at₀ at : ℕ) (rest total : List ℕ) → rest ≡ [] → Writing pb₀ pb at₀ at rest total → Wrote pb₀ pb at₀ at total
writing_end pb₀ pb at₀ at rest total e w =
    record {
      ends = sym (add-zero at) ∙ ap (λ l. at + length l) (sym e) ∙ w.ends;
      front = sym (append-nil (take at pb)) ∙ ap (λ l. take at pb ++ l) (sym e) ∙ w.front;
      back = w.back;
    }

pub sets_written : (vs l : List ℕ) (at at' : ℕ) → at + length vs ≤ length l → at' ≡ at + length vs → Wrote l (sets l at vs) at at' vs
sets_written vs l at at' h d =
    let s = sets-eq vs l at h in
    let n : length (take at l ++ vs) ≡ at' = length-append (take at l) vs ∙ ap (λ k. k + length vs) (length-take-le at l (omega arith)) ∙ sym d in
    record {
      ends = d;
      front = ap (take at') s ∙ take_at (take at l ++ vs) (drop (at + length vs) l) at' n;
      back = ap (drop at') s ∙ drop_at (take at l ++ vs) (drop (at + length vs) l) at' n ∙ ap (λ k. drop k l) (sym d);
    }

-- what is written from the front is the whole front, and the rest is as before
pub wrote_front : (pb pb' : List ℕ) (n : ℕ) (bs : List ℕ) → Wrote pb pb' 0 n bs → pb' ≡ bs ++ drop (length bs) pb
wrote_front pb pb' n bs w =
    let e : n ≡ length bs = omega (arith, w.ends) in
    sym (take-append-drop n pb') ∙ ap (λ l. l ++ drop n pb') w.front ∙ ap (λ l. bs ++ l) (w.back ∙ ap (λ k. drop k pb) e)

-- no second buffer fits
pub wrote_unique : {pb m n : List ℕ} {at a b : ℕ} {bs : List ℕ} → Wrote pb m at a bs → Wrote pb n at b bs → (a ≡ b) × (m ≡ n)
wrote_unique {pb} {m} {n} {at} {a} {b} {bs} h k = (h.ends ∙ sym k.ends, whole m a h ∙ sym (whole n b k))
  where
    whole : (l : List ℕ) (c : ℕ) → Wrote pb l at c bs → l ≡ (take at pb ++ bs) ++ drop (at + length bs) pb
    whole l c w = sym (take-append-drop c l) ∙ ap₂ ◌++◌ w.front (w.back ∙ ap (λ (d : ℕ). drop d pb) w.ends)
