use Rattle.std.proofs.Common.{◌≡◌, ◌-◌}
use Rattle.command.specs.Meaning.{none, options_from}
use Rattle.command.proofs.options.Options.read.Given as goal

abbrev pub invariant-loop-k : goal.invariant-loop-k
invariant-loop-k l = options_from (l.n - l.first) l.first none l.args ≡ options_from (l.n - l.k) l.k l.options l.args
