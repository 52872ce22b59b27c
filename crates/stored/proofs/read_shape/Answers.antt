use mathlib.Core.Path.{sym, ◌∙◌}
use Rattle.stored.proofs.ShapeLaws.{no_version, too_short, wrong_length, claims_over, entries_over, all_fits}
use native.Mathlib.Omega.{arith}
use Rattle.stored.proofs.read_shape.Goals.{then-proof-lt23-via-then-proof-lt23, then-proof-lt23-via-else-proof-lt23+then-word_at-proof}
use Rattle.stored.proofs.read_shape.Goals as goal

pub returns-then-not-is_known : goal.returns-then-not-is_known
returns-then-not-is_known c = no_version c.args.proof.now c.is_known.ensures c.if-not-is_known.true

pub returns-then-proof-lt23 : goal.returns-then-proof-lt23
returns-then-proof-lt23 c = let v = sym c.is_known.ensures ∙ c.if-not-is_known.false in
    elim c.then-proof-lt23.branch [
      | then-proof-lt23-via-then-proof-lt23 w ↦ too_short c.args.proof.now v w.if-proof-lt23.true
      | then-proof-lt23-via-else-proof-lt23+then-word_at-proof w ↦ wrong_length c.args.proof.now v w.word_at.result w.word_at.ensures w.if-word_at-proof.true
    ]

pub returns-then-proof-polys : goal.returns-then-proof-polys
returns-then-proof-polys c = claims_over c.args.proof.now (sym c.is_known.ensures ∙ c.if-not-is_known.false) c.from-layers.result c.from-layers.ensures c.if-proof-polys.true

pub returns-then-not-entries_fit : goal.returns-then-not-entries_fit
returns-then-not-entries_fit c = entries_over c.args.proof.now (sym c.is_known.ensures ∙ c.if-not-is_known.false) c.from-layers.result c.from-layers.ensures c.from-entries.result c.from-entries.ensures c.entries_fit.result c.entries_fit.ensures c.if-not-entries_fit.true

pub returns : goal.returns
returns c = all_fits c.args.proof.now (sym c.is_known.ensures ∙ c.if-not-is_known.false) c.from-layers.result c.from-layers.ensures c.from-entries.result c.from-entries.ensures c.entries_fit.result c.entries_fit.ensures c.if-not-entries_fit.false (omega arith) c.word_at.result c.word_at.ensures (omega arith) (omega arith)
