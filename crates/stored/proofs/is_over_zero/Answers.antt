use mathlib.Core.Path.{sym, ◌∙◌, ap}
use Rattle.field.specs.Ext as E
use Rattle.field.specs.Element.{dec}
use Rattle.stored.proofs.ElementLaws.{no_root, root_there}
use Rattle.stored.proofs.is_over_zero.Goals as goal

pub returns-then-proof-lt21 : goal.returns-then-proof-lt21
returns-then-proof-lt21 c = sym (no_root _ c.if-proof-lt21.true)

pub returns : goal.returns
returns c = c.is_zero.ensures ∙ ap (λ x. E.same (dec x) E.nil) c.element_at.ensures ∙ sym (root_there _ c.if-proof-lt21.false)
