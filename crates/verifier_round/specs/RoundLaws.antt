-- No second answer fits a step of a round, but for the sponge.
-- Assumes nothing.
use Rattle.std.specs.Prelude.{◌≡◌, List, ℕ}
use Rattle.field.specs.Ext as E
use Rattle.field.specs.ElementLaws.{is_unique}
use Rattle.field.specs.CellLaws.{stored_unique}
use Rattle.multilinear.specs.RoundSum.{Claims}
use Rattle.gkr.specs.Run.{Cubic}
use Rattle.gkr.specs.Transcripts.{Source}
use Rattle.transcript.specs.Log.{State}
use Rattle.transcript.specs.LogLaws.{SameState, steps_unique}
use Rattle.verifier_round.specs.declared.Claims.{Claims as Claimed}
use Rattle.verifier_round.specs.declared.Sums.{Sums}
use Rattle.verifier_round.specs.declared.Opened.{Opened}
use Rattle.verifier_round.specs.Rounds.{LayerOpened, SubChecked, Descended}

pub opens_unique : {pt : List ℕ} {t t' t'' : State} {ch : Source E.Ext} {l : Claimed} {r s : Opened} → LayerOpened pt t t' ch l r → LayerOpened pt t t'' ch l s → (r ≡ s) × SameState t' t''
opens_unique h k = (
  λ i. record { lambda = is_unique h.lambda k.lambda i; first = record { claim = is_unique h.claim k.claim i; eq = is_unique h.eq k.eq i; xi = is_unique h.xi k.xi i } },
  steps_unique h.steps k.steps,
)

pub sub_round_unique : {pt pt' pt'' : List ℕ} {t t' t'' : State} {ch : Source E.Ext} {j : ℕ} {m : Cubic E.Ext} {l r s : Sums} → SubChecked pt pt' t t' ch j m l r → SubChecked pt pt'' t t'' ch j m l s → (r ≡ s) × (pt' ≡ pt'') × SameState t' t''
sub_round_unique h k = (
  λ i. record { claim = is_unique h.claim k.claim i; eq = is_unique h.eq k.eq i; xi = is_unique h.xi k.xi i },
  stored_unique h.rho k.rho,
  steps_unique h.steps k.steps,
)

pub descended_unique : {pt pt' pt'' : List ℕ} {t t' t'' : State} {ch : Source E.Ext} {c : Claims E.Ext} {r s : Claimed} → Descended pt pt' t t' ch c r → Descended pt pt'' t t'' ch c s → (r ≡ s) × (pt' ≡ pt'') × SameState t' t''
descended_unique h k = (
  λ i. record { numer = is_unique h.numer k.numer i; denom = is_unique h.denom k.denom i },
  stored_unique h.mu k.mu,
  steps_unique h.steps k.steps,
)
