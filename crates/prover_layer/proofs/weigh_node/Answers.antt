use mathlib.Core.Path.{◌∙◌, ap₂, subst}
use Rattle.field.specs.Ext as E
use Rattle.field.specs.Element.{dec}
use Rattle.field.specs.Cells.{Stored}
use Rattle.prover_layer.proofs.weigh_node.Goals as goal

pub returns : goal.returns
returns c = subst (Stored _ _ _) (c.times_plus.ensures.value ∙ ap₂ (λ q p. E.add (E.mul q (dec c.args.lambda)) p) c.load_node-f.ensures.q.value c.load_node-f.ensures.p.value) c.store.ensures
