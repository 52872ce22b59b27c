use mathlib.Core.Path.{sym, ◌∙◌}
use Rattle.stored.proofs.SearchLaws.{bad_root, bad_claim, bad_entry, none_bad, claim_small, entry_small}
use native.Mathlib.Omega.{arith}
use Rattle.stored.proofs.first_bad_in_proof.Goals as goal

pub returns-in-Some : goal.returns-in-Some
returns-in-Some c = bad_root c.args.proof.now c.args.outline c.requires _ (sym c.in-Some.is ∙ c.first_bad_stored.ensures)

pub overflow_add-result : goal.overflow_add-result
overflow_add-result c = omega (arith, claim_small c.args.proof.now c.args.outline c.requires _ (sym c.in-Some-first_bad_stored.is ∙ c.first_bad_stored-2.ensures))

pub returns-in-Some-first_bad_stored : goal.returns-in-Some-first_bad_stored
returns-in-Some-first_bad_stored c = bad_claim c.args.proof.now c.args.outline c.requires (sym c.in_default.is ∙ c.first_bad_stored.ensures) _ (sym c.in-Some-first_bad_stored.is ∙ c.first_bad_stored-2.ensures)

pub returns-in_err-place : goal.returns-in_err-place
returns-in_err-place c = c.from_residual.ensures ∙ none_bad c.args.proof.now c.args.outline c.requires (sym c.in_default.is ∙ c.first_bad_stored.ensures) (sym c.in_default-first_bad_stored.is ∙ c.first_bad_stored-2.ensures) (sym c.in_err-place.was ∙ c.first_bad_in_entries.ensures)

pub overflow_add-result-3 : goal.overflow_add-result-3
overflow_add-result-3 c = omega (arith, entry_small c.args.proof.now c.args.outline c.requires _ (sym c.in_ok-place.was ∙ c.first_bad_in_entries.ensures))

pub returns : goal.returns
returns c = bad_entry c.args.proof.now c.args.outline c.requires (sym c.in_default.is ∙ c.first_bad_stored.ensures) (sym c.in_default-first_bad_stored.is ∙ c.first_bad_stored-2.ensures) _ (sym c.in_ok-place.was ∙ c.first_bad_in_entries.ensures)
