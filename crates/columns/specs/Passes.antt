-- Columns in lists of words, and what the passes over them leave.
-- Assumes nothing.
use Rattle.std.specs.Prelude.{◌≡◌, List, ℕ, ◌+◌, ◌<◌, ◌≤◌, length, get_or}
use Rattle.field.specs.Base.{of}
use Rattle.field.specs.Ext as E
use Rattle.field.specs.ExtRing.{ExtRing}
use Rattle.field.specs.declared.Ext.{Ext}
use Rattle.field.specs.Element.{Is}
use Rattle.field.specs.Cells.{cell, Clean}
use Rattle.multilinear.specs.Table as Table
use Rattle.multilinear.specs.RoundSum as RoundSum
use Rattle.multilinear.specs.RoundSum.{Claims}
use Rattle.step.specs.declared.Three.{Three}
use Rattle.step.specs.Values.{minus, line, two, three, IsThree}

-- the base element of word i, as an element
abbrev pub base_cell : List ℕ → ℕ → E.Ext
base_cell ws i = E.emb (of (get_or ws i 0))

-- what is read at each index below n is c there; `Gives` says what a call at an index may answer
abbrev pub Reads : (ℕ → Ext → Type 0) → ℕ → (ℕ → E.Ext) → Type 0
Reads Gives n c = (i : ℕ) (e : Ext) → i < n → Gives i e → Is e (c i)

-- the four columns of claims
abbrev pub claims : (p0 q0 p1 q1 : List ℕ) → ℕ → Claims E.Ext
claims p0 q0 p1 q1 i = record { p0 = cell p0 i; q0 = cell q0 i; p1 = cell p1 i; q1 = cell q1 i }

-- PASSES OVER A TABLE

-- the first n of `half` entries are brought together at z with those of the other half
pub record Merged (ws ws' : List ℕ) (half n : ℕ) (z : E.Ext) : Type 0 where
  pub clean : Clean ws'
  pub low : (i : ℕ) → i < n → cell ws' i ≡ line z (cell ws i) (cell ws (half + i))
  pub rest : (j : ℕ) → n ≤ j → cell ws' j ≡ cell ws j

-- entry i of `size` entries becomes two
pub record GrownEntry (ws ws' : List ℕ) (size i : ℕ) (x : E.Ext) : Type 0 where
  pub clean : Clean ws'
  pub low : cell ws' i ≡ E.mul (cell ws i) (minus E.one x)
  pub high : cell ws' (size + i) ≡ E.mul (cell ws i) x
  pub rest : (j : ℕ) → (j ≡ i → ⊥) → (j ≡ size + i → ⊥) → cell ws' j ≡ cell ws j

-- the first n of them do
pub record Grown (ws ws' : List ℕ) (size n : ℕ) (x : E.Ext) : Type 0 where
  pub clean : Clean ws'
  pub low : (i : ℕ) → i < n → cell ws' i ≡ E.mul (cell ws i) (minus E.one x)
  pub high : (i : ℕ) → i < n → cell ws' (size + i) ≡ E.mul (cell ws i) x
  pub between : (j : ℕ) → n ≤ j → j < size → cell ws' j ≡ cell ws j

-- FIVE COLUMNS

-- each has n words, and they are canonical
pub record Room (n : ℕ) (e a b c d : List ℕ) : Type 0 where
  pub eq : n ≤ length e
  pub p0 : n ≤ length a
  pub q0 : n ≤ length b
  pub p1 : n ≤ length c
  pub q1 : n ≤ length d
  pub eq_clean : Clean e
  pub p0_clean : Clean a
  pub q0_clean : Clean b
  pub p1_clean : Clean c
  pub q1_clean : Clean d

-- the summand of s(x) at y
abbrev pub summand_of : (eq : List ℕ) (pq : ℕ → Claims E.Ext) (lambda x : E.Ext) (y : ℕ) → E.Ext
summand_of eq pq lambda x y = E.mul (Table.fold ExtRing (cell eq) x y) (RoundSum.cross ExtRing lambda (RoundSum.folded ExtRing pq x y))

abbrev pub Summands : Three → ℕ → List ℕ → (ℕ → Claims E.Ext) → E.Ext → Type 0
Summands r y eq pq lambda = IsThree r (summand_of eq pq lambda E.one y) (summand_of eq pq lambda two y) (summand_of eq pq lambda three y)

abbrev pub Sums : Three → ℕ → List ℕ → (ℕ → Claims E.Ext) → E.Ext → Type 0
Sums r n eq pq lambda =
    IsThree r (Table.sum ExtRing n (summand_of eq pq lambda E.one)) (Table.sum ExtRing n (summand_of eq pq lambda two)) (Table.sum ExtRing n (summand_of eq pq lambda three))

abbrev pub Constant : Three → List ℕ → (ℕ → Claims E.Ext) → E.Ext → Type 0
Constant r eq pq lambda =
    let s = E.mul (cell eq 0) (RoundSum.cross ExtRing lambda (pq 0)) in
    IsThree r s s s
