-- What an accepted verdict of verify_gkr says of the rows, when its claims are their values at the point that it wrote.
-- Assumes nothing.
use Rattle.std.specs.Prelude.{◌≡◌, Ok, Bool, true, List, ◌⊎◌, ℕ, ◌^◌, ◌≤◌, take}
use Rattle.field.specs.Ext as E
use Rattle.field.specs.ExtRing.{ExtRing}
use Rattle.field.specs.Extension.{Extension}
use Rattle.field.specs.Element.{enc}
use Rattle.field.specs.Cells.{cells}
use Rattle.field.specs.declared.Ext.{Ext}
use Rattle.gkr.specs.Run.{Frac, Proof}
use Rattle.gkr.specs.Sizes.{point_words}
use Rattle.gkr.specs.Transcripts.{Words, empty}
use Rattle.gkr.specs.Tree as Tree
use Rattle.domain.specs.Rows.{ZeroRow}
use Rattle.soundness.specs.Fractions.{SumsToZero}
use Rattle.soundness.specs.Few.{AtMost}
use Rattle.soundness.specs.Steps.{Step, bad}
use Rattle.soundness.specs.Challenges as Challenges
use Rattle.soundness.specs.Challenges.{RootIs}
use Rattle.soundness.specs.WordLog.{DrewAt}
use Rattle.transcript.specs.Log.{Drawing}
use Rattle.transcript.specs.Bound.{bound}
use Rattle.stored.specs.Parse.{sized, proof_of}
use Rattle.stored.specs.Elements.{decoded}
use Rattle.verifier.specs.Verified.{Asked, Lent, Outcome, source_of, verified}
use Rattle.sizes.specs.Sizes.{row_count}
use Rattle.prover_tree.specs.Nodes.{node}
use Rattle.evaluation.specs.Evaluated.{evaluated}

-- the proof that stands in the bytes
abbrev pub stated : Asked → Proof E.Ext
stated a = decoded (proof_of a.proof)

-- an outcome of n rounds: accepted, and the claims answered are the values of the rows f at the point written
abbrev pub Tells : (n : ℕ) (o : Outcome) (f : ℕ → Frac E.Ext) → Type 0
Tells n o f = let v = Tree.value ExtRing f (cells o.buffers.point 0 n) in o.answer ≡ Ok (record { numer = enc v.p; denom = enc v.q })

-- THE CALL, of one round or more, ACCEPTS with the values of the rows f
abbrev pub Matches : (a : Asked) (b : Lent) (f : ℕ → Frac E.Ext) → Type 0
Matches a b f = (1 ≤ a.rounds) × Tells a.rounds (verified a b) f

-- one of the challenges of the run was bad for the rows f
abbrev pub Unlucky : (a : Asked) (f : ℕ → Frac E.Ext) → Type 0
Unlucky a f = Challenges.Unlucky Extension (Drawing (source_of a)) f (stated a) (bound (sized a.proof) a.rounds empty)

-- THE ROOT of the rows is (0, q0), or a challenge was bad
abbrev pub AcceptedSound : Type 0
AcceptedSound = (a : Asked) (b : Lent) (f : ℕ → Frac E.Ext) → Matches a b f → RootIs Extension f a.rounds (stated a).q0 ⊎ Unlucky a f

-- LIVE: no row is over zero and the fractions add up to zero, or a challenge was bad
abbrev pub AcceptedLive : Type 0
AcceptedLive =
    (a : Asked) (b : Lent) (f : ℕ → Frac E.Ext) → a.modes.live ≡ true → Matches a b f
    → ((¬ ZeroRow ExtRing f (2 ^ a.rounds)) × SumsToZero ExtRing f (2 ^ a.rounds)) ⊎ Unlucky a f

-- what a log of n rounds, of a proof that binds its size or not, puts on the table
abbrev pub Table : Type 0
Table = (sized : Bool) (n : ℕ) (u : Words) → Step E.Ext

-- the log that the call left shows a challenge that is bad at what the log u before it puts on the table
abbrev pub BadInLog : Table → (a : Asked) (b : Lent) (f : ℕ → Frac E.Ext) → Type 0
BadInLog table a b f = (u : Words) × DrewAt (source_of a) u (verified a b).buffers.log × bad Extension f (table (sized a.proof) a.rounds u) (source_of a u)

-- WHATEVER THE SOURCE of the challenges, and be it a hash of the log: a log fixes at most three values that are bad at it; and a call that accepts with the values
-- of the rows f says of them what it says above, or shows a bad challenge in its log
pub record DrawnSound : Type 0 where
  pub table : Table
  pub few : (f : ℕ → Frac E.Ext) (sized : Bool) (n : ℕ) (u : Words) → AtMost 3 (bad Extension f (table sized n u))
  pub sound : (a : Asked) (b : Lent) (f : ℕ → Frac E.Ext) → Matches a b f → RootIs Extension f a.rounds (stated a).q0 ⊎ BadInLog table a b f
  pub live : (a : Asked) (b : Lent) (f : ℕ → Frac E.Ext) → a.modes.live ≡ true → Matches a b f
      → ((¬ ZeroRow ExtRing f (2 ^ a.rounds)) × SumsToZero ExtRing f (2 ^ a.rounds)) ⊎ BadInLog table a b f

-- A SHEET: the call, of one round or more, accepts, and evaluating the sheet's rows at the point that it wrote gives its two claims
pub record Checked (a : Asked) (b : Lent) (rows : List ℕ) : Type 0 where
  pub some : 1 ≤ a.rounds
  pub numer : Ext
  pub denom : Ext
  pub accepted : (verified a b).answer ≡ Ok (record { numer = numer; denom = denom })
  pub valued : evaluated rows (take (point_words a.rounds) (verified a b).buffers.point) ≡ Ok (record { rounds = a.rounds; numer = numer; denom = denom })

-- then there are 2 ^ rounds rows, and the claims are their values
abbrev pub SheetMatches : Type 0
SheetMatches = (a : Asked) (b : Lent) (rows : List ℕ) → Checked a b rows → (row_count rows ≡ 2 ^ a.rounds) × Matches a b (node rows)

-- and the sum of all rows is zero over q0, or a challenge was bad
abbrev pub SheetSound : Type 0
SheetSound = (a : Asked) (b : Lent) (rows : List ℕ) → Checked a b rows → RootIs Extension (node rows) a.rounds (stated a).q0 ⊎ Unlucky a (node rows)

-- verified live: no row of the sheet is over zero and its fractions add up to zero, or a challenge was bad
abbrev pub SheetLive : Type 0
SheetLive =
    (a : Asked) (b : Lent) (rows : List ℕ) → a.modes.live ≡ true → Checked a b rows
    → ((¬ ZeroRow ExtRing (node rows) (row_count rows)) × SumsToZero ExtRing (node rows) (row_count rows)) ⊎ Unlucky a (node rows)
