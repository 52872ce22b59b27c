-- What a line says.
-- Assumes nothing.
use Rattle.std.specs.Prelude.{ℕ, cond, ◌&&◌, ◌||◌, List, length, ◌==◌, nat_le, nat_lt, slice_index, Option, Some, None, option_and_then}
use Rattle.std.specs.Result.{result_ok}
use Rattle.sheet_text.specs.declared.Element.{Element}
use Rattle.sheet_text.specs.declared.Line.{Line}
use Rattle.sheet_text.specs.declared.Line.TheVariants.{Skipped, Single, Fraction}
use Rattle.sheet_text.specs.Scan.{after_byte, element_at, spaces_at}

-- what follows a part, if the part is there
infixl 10 ◌>>=◌
abbrev pub ◌>>=◌ : {A B : Type 0} → Option A → (A → Option B) → Option B
o >>= f = option_and_then f o

-- p and the second element from a place on, where something parts the two, and nothing follows them
unfoldable pub second_of : List ℕ → Element → ℕ → Option Line
second_of line p from = do
  q ← result_ok (element_at line from)
  cond (nat_lt p.at from && nat_le (length line) (spaces_at line q.at)) (Some (Fraction p.value q.value)) None

-- p alone, or p and what follows a gap or a slash
unfoldable pub rest_of : List ℕ → Element → Option Line
rest_of line p =
    let gap : ℕ = spaces_at line p.at in
    cond (nat_le (length line) gap) (Some (Single p.value)) (second_of line p (spaces_at line (after_byte 47 line gap)))

-- blank or a comment; or elements, from the first byte that is no space on
unfoldable pub line_of : List ℕ → Option Line
line_of line =
    let start : ℕ = spaces_at line 0 in
    cond (nat_le (length line) start || slice_index line start == 35) (Some Skipped) (result_ok (element_at line start) >>= rest_of line)
