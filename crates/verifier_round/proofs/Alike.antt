-- What holds by the source of one state holds by that of another where both are the same.
-- Assumes nothing.
use mathlib.Core.Path.{◌≡◌, subst}
use mathlib.Core.List.{List}
use Prim.Native.Nat.{ℕ}
use Rattle.field.specs.Ext as E
use Rattle.field.specs.declared.Ext.{Ext}
use Rattle.field.specs.Element.{Is}
use Rattle.multilinear.specs.RoundSum.{Claims}
use Rattle.gkr.specs.Run.{Cubic}
use Rattle.gkr.specs.Transcripts.{Source}
use Rattle.transcript.specs.Log.{Drawing, State, Steps, log_of}
use Rattle.verifier_round.specs.declared.Claims.{Claims as Claimed}
use Rattle.verifier_round.specs.declared.Sums.{Sums}
use Rattle.verifier_round.specs.Rounds.{SubChecked, Descended}

module _ {a b : Source E.Ext} (e : a ≡ b) where
  pub sampled_alike : {t t' : State} {x : Ext} → Steps t t' 4 1 ((Drawing a).drawn (log_of t)) × Is x (a (log_of t)) → Steps t t' 4 1 ((Drawing b).drawn (log_of t)) × Is x (b (log_of t))
  sampled_alike {t} {t'} {x} h = subst (λ (s : Source E.Ext). Steps t t' 4 1 ((Drawing s).drawn (log_of t)) × Is x (s (log_of t))) e h

  pub sub_round_alike : {pt pt' : List ℕ} {t t' : State} {j : ℕ} {m : Cubic E.Ext} {s r : Sums} → SubChecked pt pt' t t' a j m s r → SubChecked pt pt' t t' b j m s r
  sub_round_alike {pt} {pt'} {t} {t'} {j} {m} {s} {r} h = subst (λ (d : Source E.Ext). SubChecked pt pt' t t' d j m s r) e h

  pub descended_alike : {pt pt' : List ℕ} {t t' : State} {c : Claims E.Ext} {r : Claimed} → Descended pt pt' t t' a c r → Descended pt pt' t t' b c r
  descended_alike {pt} {pt'} {t} {t'} {c} {r} h = subst (λ (d : Source E.Ext). Descended pt pt' t t' d c r) e h
