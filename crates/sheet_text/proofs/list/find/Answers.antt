use Rattle.sheet_text.proofs.Finding.{first_from}
use Rattle.std.proofs.Common.{arith}
use Rattle.sheet_text.proofs.list.find.Goals as goal

pub returns-in-Some : goal.returns-in-Some
returns-in-Some c = let a = c.args in let m = rw c.in-Some.is at (first_from a.b a.at a.text.now _ c.requires c.first.ensures.place) in (omega (arith, m.0), m.1)

pub returns-in-None : goal.returns-in-None
returns-in-None c = let a = c.args in let m = rw c.in-None.is at (first_from a.b a.at a.text.now _ c.requires c.first.ensures.place) in (m, omega arith)
