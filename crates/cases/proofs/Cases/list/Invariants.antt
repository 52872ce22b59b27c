use Rattle.std.proofs.Common.{◌≡◌, ◌-◌, length}
use Rattle.cases.specs.Text.{listed}
use Rattle.cases.proofs.Cases.list.Given as goal

abbrev pub invariant-loop-i : goal.invariant-loop-i
invariant-loop-i g l = (l.self.text.now ≡ l.fn.self.text.now)
    × (length l.target ≡ length l.fn.target)
    × (listed g.T.Cut.cut l.fn.self.text.now l.self.at l.target l.i (l.count - l.i) ≡ listed g.T.Cut.cut l.fn.self.text.now l.initial.self.at l.fn.target 0 l.count)
