use mathlib.Core.Path.{sym, ◌∙◌}
use Rattle.log_replay.proofs.Turns.{unlike, too_long, too_short, both_out}
use Rattle.log_replay.proofs.compare_logs.Goals as goal

pub returns-in-Some : goal.returns-in-Some
returns-in-Some c = sym (unlike c.args.given.now c.args.left.now _ (sym c.in-Some.is ∙ c.first_difference.ensures))

pub returns-then-left-given : goal.returns-then-left-given
returns-then-left-given c = sym (too_long c.args.given.now c.args.left.now (sym c.in_default.is ∙ c.first_difference.ensures) c.if-left-given.true)

pub returns-then-given-left : goal.returns-then-given-left
returns-then-given-left c = sym (too_short c.args.given.now c.args.left.now (sym c.in_default.is ∙ c.first_difference.ensures) c.if-given-left.true)

pub returns : goal.returns
returns c = sym (both_out c.args.given.now c.args.left.now (sym c.in_default.is ∙ c.first_difference.ensures) c.if-left-given.false c.if-given-left.false)
