use Rattle.std.proofs.Common.{ℕ}
use Rattle.field.specs.Ext as E
use Rattle.field.specs.Element.{dec, Canon, Is}
use Rattle.columns.specs.Passes.{Reads}
use Rattle.columns.proofs.Turns.{from}
use Rattle.columns.proofs.horner.horner.Given as goal

abbrev pub invariant-loop-i : goal.invariant-loop-i
invariant-loop-i g l = Canon l.acc × ((c : ℕ → E.Ext) → Reads (goal.F-post g l.coefficient) l.n c → Is l.acc (from l.n l.i c (dec l.x)))
