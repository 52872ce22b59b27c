-- No second answer fits: what a contract says of an answer and of each buffer is met by one answer and one content.
-- Assumes nothing.
use Rattle.std.specs.Prelude.{◌≡◌, refl, Bool, true, false, List, ℕ, ◌^◌, ◌<◌, ◌≤◌, leb, Result, Ok, Err, IfOk}
use Rattle.std.proofs.Common.{sym, ◌∙◌, ap, leb-true, leb-false}
use Rattle.field.specs.declared.Ext.{Ext}
use Rattle.refusal.specs.Limits.{max_rounds, max_rows}
use Rattle.refusal.specs.declared.Refusal.{Refusal}
use Rattle.refusal.specs.declared.Refusal.TheVariants.{TooManyRounds}
use Rattle.poly.specs.Evaluations.{InPlace, Filled}

-- an answer alone: interpolate_*, eval_eq_mle, eval_mle_evals_by_halves, horner_eval*, sumcheck_round_poly_evals, fold_mle_evals_refusal, and both clauses of fold_mle_evals
pub answer_unique : {A : Type 0} {a r s : A} → r ≡ a → s ≡ a → r ≡ s
answer_unique e e' = e ∙ sym e'

-- an answer and a table: eval_mle_evals_at_point
pub in_place_unique : {a : InPlace} {r s : Result Ext Refusal} {t u : List ℕ} → ◌≡◌ {A = InPlace} (record { answer = r; table = t }) a → ◌≡◌ {A = InPlace} (record { answer = s; table = u }) a
    → (r ≡ s) × (t ≡ u)
in_place_unique e e' = let q = e ∙ sym e' in (ap (λ (x : InPlace). x.answer) q, ap (λ (x : InPlace). x.table) q)

-- an outcome and a target: evals_eq_hypercube, evals_eq_hypercube_serial, fold_mle_evals_into
pub filled_unique : {a : Filled} {r s : Result (Unit {0}) Refusal} {t u : List ℕ} → ◌≡◌ {A = Filled} (record { outcome = r; target = t }) a → ◌≡◌ {A = Filled} (record { outcome = s; target = u }) a
    → (r ≡ s) × (t ≡ u)
filled_unique e e' = let q = e ∙ sym e' in (ap (λ (x : Filled). x.outcome) q, ap (λ (x : Filled). x.target) q)

-- a size: cube
pub cube_unique : (v : ℕ) {r s : Result ℕ Refusal} → IfOk r (λ n. n ≤ max_rows) × (v ≤ max_rounds → r ≡ Ok (2 ^ v)) × (max_rounds < v → r ≡ Err TooManyRounds)
    → IfOk s (λ n. n ≤ max_rows) × (v ≤ max_rounds → s ≡ Ok (2 ^ v)) × (max_rounds < v → s ≡ Err TooManyRounds) → r ≡ s
cube_unique v {r} {s} h k = go (leb v max_rounds) refl
  where
    go : (t : Bool) → leb v max_rounds ≡ t → r ≡ s
    go true e = let l = leb-true v max_rounds e in h.1 l ∙ sym (k.1 l)
    go false e = let l = leb-false v max_rounds e in h.2 l ∙ sym (k.2 l)
