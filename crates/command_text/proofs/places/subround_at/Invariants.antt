use Rattle.std.proofs.Common.{◌≡◌, ◌+◌, drop}
use Rattle.command_text.specs.Places.{layer_from}
use Rattle.command_text.proofs.places.subround_at.Given as goal

abbrev pub invariant-loop-e : goal.invariant-loop-e
invariant-loop-e l = layer_from 1 l.counts l.subround ≡ layer_from (l.e + 1) (drop l.e l.counts) l.left
