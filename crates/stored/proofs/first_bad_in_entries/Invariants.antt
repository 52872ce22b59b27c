use mathlib.Core.Path.{◌≡◌}
use Prim.Native.Nat.{◌-◌}
use lib.ListN.{drop}
use Rattle.std.specs.Prelude.{None}
use Rattle.stored.specs.Layout.{polys_words}
use Rattle.stored.specs.Parse.{entries_from}
use Rattle.stored.proofs.SearchLaws.{Inner, Passed}
use Rattle.stored.proofs.first_bad_in_entries.Given as goal

abbrev pub invariant-loop-j : goal.invariant-loop-j
invariant-loop-j l = (l.found ≡ None) × Inner l.proof (polys_words (entries_from l.count (drop l.from l.proof))) l.count l.passed l.at l.k (l.subrounds - l.j)

abbrev pub invariant-entries : goal.invariant-entries
invariant-entries l = (l.found ≡ None) × Passed l.proof (polys_words (entries_from l.count (drop l.from l.proof))) l.count l.passed l.at l.k
