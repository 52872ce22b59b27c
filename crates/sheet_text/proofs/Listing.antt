-- The lines of a text, and the turns of the loop over them.
-- Assumes nothing.
use Rattle.std.proofs.Common.{◌≡◌, ℕ, ◌+◌, ◌<◌, ◌≤◌, Bool, true, false, eqb, List, [], ◌∷◌, ◌++◌, length, get_or, drop, Option, Some, None, Bor, arith, Result, Ok, Err, MatchResult, ◌⊎◌, inl, inr, sym, refl, ap, ◌∙◌, add-one, drop_of_length-le, drop-cons}
use Rattle.std.specs.List.{slice_split, onto_first, enumerate_from}
use Rattle.std.specs.Iterator.{Yields}
use Rattle.std.specs.Iterator.Adapters.{enumerate_source, enumerate_count, enumerate_steps}
use Rattle.std.specs.declared.iter.Enumerate.{Enumerate}
use Rattle.std.proofs.lemmas.Iterator.{YieldsList}
use Rattle.std.proofs.lemmas.Iterator.Consumers.{YieldsList-from_enumerate, YieldsList-turn, YieldsList-end}
use Rattle.std.proofs.lemmas.List.FromFn.{get_or-enumerate_from, length-enumerate_from}
use Rattle.sheet_text.specs.declared.ListError.{ListError}
use Rattle.sheet_text.specs.declared.PlaceError.{PlaceError}
use Rattle.sheet_text.specs.Scan.{spaces_at, spaces_from}
use Rattle.sheet_text.specs.Lines.{line_of}
use Rattle.sheet_text.specs.Reading.{longer, lines_of, Left, put_line, error_at, Ended, go_on, read_lines, list_read}

-- ---- the parts at the line feeds are the lines, and an empty part after a last line feed
abbrev pub parts_of : List ℕ → List (List ℕ)
parts_of = slice_split (λ b. eqb b 10)

abbrev LinesOf : List (List ℕ) → List (List ℕ) → Type 0
LinesOf parts lines = (parts ≡ lines) ⊎ (parts ≡ lines ++ [] ∷ [])

onto_longer : (b : ℕ) (lines : List (List ℕ)) → onto_first b lines ≡ longer b lines
unfolding longer
onto_longer b [] = refl
onto_longer b (l ∷ ls) = refl

after_feed : (parts lines : List (List ℕ)) → LinesOf parts lines → LinesOf ([] ∷ parts) ([] ∷ lines)
after_feed parts lines (inl e) = inl (ap (λ (l : List (List ℕ)). [] ∷ l) e)
after_feed parts lines (inr e) = inr (ap (λ (l : List (List ℕ)). [] ∷ l) e)

after_other : (b : ℕ) (parts lines : List (List ℕ)) → LinesOf parts lines → LinesOf (onto_first b parts) (longer b lines)
unfolding longer
after_other b parts lines (inl e) = inl (ap (onto_first b) e ∙ onto_longer b lines)
after_other b parts [] (inr e) = inl (ap (onto_first b) e)
after_other b parts (l ∷ ls) (inr e) = inr (ap (onto_first b) e)

part_on : (b : ℕ) (text : List ℕ) (t : Bool) → eqb b 10 ≡ t → LinesOf (parts_of text) (lines_of text) → LinesOf (parts_of (b ∷ text)) (lines_of (b ∷ text))
unfolding lines_of
part_on b text true e h = rw e (after_feed _ _ h)
part_on b text false e h = rw e (after_other b _ _ h)

parts : (text : List ℕ) → LinesOf (parts_of text) (lines_of text)
unfolding lines_of
parts [] = inr refl
parts (b ∷ text) = part_on b text (eqb b 10) refl (parts text)

-- an empty line after the last changes nothing
read_last : (pairs : Bool) (n put : ℕ) (ws : List ℕ) (lines : List (List ℕ)) → read_lines pairs n put ws (lines ++ [] ∷ []) ≡ read_lines pairs n put ws lines
unfolding read_lines go_on put_line line_of spaces_at spaces_from
read_last pairs n put ws [] = refl
read_last pairs n put ws (l ∷ ls) = λ i. go_on (n + 1) (put_line pairs put ws (line_of l)) (λ put' ws'. read_last pairs (n + 1) put' ws' ls i)

pub parts_read : (pairs : Bool) (ws text : List ℕ) → read_lines pairs 0 0 ws (parts_of text) ≡ list_read pairs text ws
parts_read pairs ws text = elim (parts text) [ inl e ↦ ap (read_lines pairs 0 0 ws) e | inr e ↦ ap (read_lines pairs 0 0 ws) e ∙ read_last pairs 0 0 ws (lines_of text) ]

-- ---- the turns of the loop
-- What came of a line, by what is told of it under its number.
abbrev pub Numbered : ℕ → Result ℕ PlaceError → Result ℕ ListError → Type 0
Numbered n r s = MatchResult r (λ k. s ≡ Ok k) (λ e. s ≡ Err (error_at n e))

pub went_on : (r : Result ℕ PlaceError) (s : Result ℕ ListError) (n : ℕ) → Numbered n r s → (k : ℕ) → s ≡ Ok k → r ≡ Ok k
went_on (Ok x) s n m k h = cc
went_on (Err e) s n m k h = cc

pub failed : (r : Result ℕ PlaceError) (s : Result ℕ ListError) (i n : ℕ) → i ≡ n → Numbered (i + 1) r s → (d : ListError) → s ≡ Err d → (e : PlaceError) × (r ≡ Err e) × (d ≡ error_at (n + 1) e)
failed (Ok x) s i n q m d h = cc
failed (Err e) s i n q m d h = let u : d ≡ error_at (i + 1) e = cc in (e, refl, u ∙ ap (λ k. error_at (k + 1) e) q)

-- an item of the numbered parts is the next of them, under its number
module _ {S : Type 0} {steps : S → Option (Bor (List ℕ)) → S → Type 0} {s₀ : S} {all : List (List ℕ)} (s : Enumerate S) (items : List (ℕ × Bor (List ℕ))) (t : Enumerate S) (ran : Yields (enumerate_steps steps) s items t)
    (r : Option (ℕ × Bor (List ℕ))) (u : Enumerate S) (step : enumerate_steps steps t r u) (source : enumerate_source s ≡ s₀) (count : enumerate_count s ≡ 0) (p : YieldsList steps (λ x. x.now) s₀ all) where
  numbered : YieldsList {B = ℕ × List ℕ} (enumerate_steps steps) (λ x. (x.0, x.1.now)) s (enumerate_from 0 all)
  numbered = YieldsList-from_enumerate (rw (← source) at p) count

  pub line_at : (i : ℕ) (line : Bor (List ℕ)) → r ≡ Some (i, line) → (i ≡ length items) × (length items < length all) × (line.now ≡ get_or all (length items) line.now)
  line_at i line e =
      let y = YieldsList-turn numbered items t ran r u (i, line) e step in
      let h : length items < length all = rw length-enumerate_from at y.0 in
      let q : (i, line.now) ≡ (0 + length items, get_or all (length items) line.now) = y.1 ∙ get_or-enumerate_from 0 all (length items) (i, line.now) h in
      (omega (arith, ap (λ x. x.0) q), h, ap (λ x. x.1) q)

  pub all_read : r ≡ None → length items ≡ length all
  all_read e = (YieldsList-end numbered items t ran r u e step).1 ∙ length-enumerate_from 0 all

-- what was read so far, and the parts that are left, give the end of the reading
module _ (pairs : Bool) (n put : ℕ) (ws : List ℕ) (all : List (List ℕ)) (end : Ended) (given : read_lines pairs n put ws (drop n all) ≡ end) where
  pub lines_end : n ≡ length all → record { answer = Ok put; words = ws } ≡ end
  unfolding read_lines
  lines_end e = let h : length all ≤ n = omega arith in rw (← given, drop_of_length-le all h)

  module _ (line : List ℕ) (h : n < length all) (e : line ≡ get_or all n line) (r : Result ℕ PlaceError) (ws' : List ℕ) (er : ◌≡◌ {A = Left} (record { answer = r; words = ws' }) (put_line pairs put ws (line_of line))) where
    next : drop n all ≡ line ∷ drop (n + 1) all
    next = rw (add-one, drop-cons all n line, ← e)

    turn : (x : Result ℕ PlaceError) → r ≡ x → read_lines pairs n put ws (drop n all) ≡ go_on (n + 1) (record { answer = x; words = ws' }) (λ put' ws'. read_lines pairs (n + 1) put' ws' (drop (n + 1) all))
    unfolding read_lines
    turn x d = rw (next, ← er, d)

    pub line_on : (k : ℕ) → r ≡ Ok k → read_lines pairs (n + 1) k ws' (drop (n + 1) all) ≡ end
    unfolding go_on
    line_on k d = sym (turn (Ok k) d) ∙ given

    pub line_ends : (x : PlaceError) → r ≡ Err x → record { answer = Err (error_at (n + 1) x); words = ws' } ≡ end
    unfolding go_on
    line_ends x d = sym (turn (Err x) d) ∙ given
