use Rattle.std.proofs.Common.{◌≡◌, ◌-◌, length, drop}
use Rattle.cases.specs.Text.{number_from, number_at}
use Rattle.cases.proofs.Cases.number.Given as goal

abbrev pub invariant-loop-self : goal.invariant-loop-self
invariant-loop-self l = (l.self.text.now ≡ l.initial.self.text.now)
    × (number_from l.value l.self.at (drop l.self.at l.self.text.now) ≡ number_at l.initial.self.text.now l.initial.self.at)

abbrev pub decreases-loop-self : goal.decreases-loop-self
decreases-loop-self l = length l.self.text.now - l.self.at
