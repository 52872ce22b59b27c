use lib.ListN.{length-set}
use Rattle.field.proofs.FourWords.{stored}
use native.Mathlib.Omega.{arith}
use borrow.Author.Rules.{rules}
use Rattle.field.proofs.store.Goals as goal

pub bounds-s-k-2 : goal.bounds-s-k-2
bounds-s-k-2 c = simp length-set (omega arith)

pub bounds-s-k-3 : goal.bounds-s-k-3
bounds-s-k-3 c = simp length-set (omega arith)

pub bounds-s-k-4 : goal.bounds-s-k-4
bounds-s-k-4 c = simp length-set (omega arith)

pub returns : goal.returns
returns c = let a = c.args in stored a.s.now a.i a.e (search rules) (search rules) (search rules)
