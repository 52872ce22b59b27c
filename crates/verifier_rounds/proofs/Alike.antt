-- What holds by the source of one state holds by that of another where both are the same.
-- Assumes nothing.
use mathlib.Core.Path.{◌≡◌, subst}
use mathlib.Core.List.{List}
use Prim.Native.Nat.{ℕ}
use Rattle.std.specs.Prelude.{Result}
use Rattle.field.specs.Ext as E
use Rattle.gkr.specs.Transcripts.{Source}
use Rattle.refusal.specs.declared.Refusal.{Refusal}
use Rattle.transcript.specs.Log.{State}
use Rattle.verifier_round.specs.declared.Claims.{Claims as Claimed}
use Rattle.verifier_round.specs.declared.Sums.{Sums}
use Rattle.verifier_rounds.specs.Runs.{Summed, RoundDone}

module _ {a b : Source E.Ext} (e : a ≡ b) where
  pub summed_alike : {bs pt pt' : List ℕ} {t t' : State} {from k : ℕ} {s r : Sums} → Summed bs pt pt' t t' a from k s r → Summed bs pt pt' t t' b from k s r
  summed_alike {bs} {pt} {pt'} {t} {t'} {from} {k} {s} {r} h = subst (λ (d : Source E.Ext). Summed bs pt pt' t t' d from k s r) e h

  pub round_done_alike : {bs pt pt' : List ℕ} {t t' : State} {claims polys round : ℕ} {s : Claimed} {r : Result Claimed Refusal} → RoundDone bs pt pt' t t' a claims polys round s r → RoundDone bs pt pt' t t' b claims polys round s r
  round_done_alike {bs} {pt} {pt'} {t} {t'} {claims} {polys} {round} {s} {r} h = subst (λ (d : Source E.Ext). RoundDone bs pt pt' t t' d claims polys round s r) e h
