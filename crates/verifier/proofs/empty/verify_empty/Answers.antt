use mathlib.Core.Path.{ap}
use mathlib.Core.Bool.{not}
use native.Mathlib.Omega.{arith}
use Rattle.field.specs.Base as B
use Rattle.field.specs.Ext as E
use Rattle.verifier.proofs.NoRounds.{layers_there, entries_there, not_one, is_one}
use Rattle.verifier.proofs.empty.verify_empty.Goals as goal

pub returns-then-layers-ne0 : goal.returns-then-layers-ne0
returns-then-layers-ne0 c = layers_there c.args.proof.now c.args.outline c.requires c.if-layers-ne0.true

pub returns-then-entries-ne0 : goal.returns-then-entries-ne0
returns-then-entries-ne0 c = entries_there c.args.proof.now c.args.outline c.requires c.if-layers-ne0.false c.if-entries-ne0.true

pub element_at-q0-requires : goal.element_at-q0-requires
element_at-q0-requires c = omega (arith, c.requires.shaped.reads.room)

pub returns-then-not-equals : goal.returns-then-not-equals
unfolding E.one E.emb E.ext B.one B.nil B.of
returns-then-not-equals c = not_one c.args.proof.now c.args.outline c.requires c.if-layers-ne0.false c.if-entries-ne0.false _ c.element_at-q0.ensures _ c.equals.ensures (ap not c.if-not-equals.true)

pub returns : goal.returns
unfolding E.one E.nil E.emb E.ext B.one B.nil B.of
returns c = is_one c.args.proof.now c.args.outline c.requires c.if-layers-ne0.false c.if-entries-ne0.false _ c.element_at-q0.ensures _ c.equals.ensures (ap not c.if-not-equals.false)
